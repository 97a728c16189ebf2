use Rattle.std.{proofs.Common.{◌≤◌, subst, arith}, proofs.lemmas.Bool.{false≢true}}
use Rattle.zf_header.{specs.declared.header.Mode.TheVariants.{Rate}, specs.HeaderBits.{IsRate, rate_bytes_of}}
use Rattle.zf_words.proofs.CommandWords.{IsRateWord-number}
use Rattle.zf_words.proofs.words.rate_in.Goals as goal

pub returns-then-not-is_rate-clause-none : goal.returns-then-not-is_rate-clause-none
returns-then-not-is_rate-clause-none c = λ b is.
    let same = IsRateWord-number c.args.ty c.args.shape b c.in_ok-number.number c.args.word.now is (omega arith) c.in_ok-number.ensures.number in
    false≢true (c.if-not-is_rate.ensures.1 (subst (λ n. IsRate (Rate n)) same is.rate))

pub returns-then-rate_bytes-gt-MAX_FILE-clause-none : goal.returns-then-rate_bytes-gt-MAX_FILE-clause-none
returns-then-rate_bytes-gt-MAX_FILE-clause-none c = λ b is.
    let same = IsRateWord-number c.args.ty c.args.shape b c.in_ok-number.number c.args.word.now is (omega arith) c.in_ok-number.ensures.number in
    let fits = subst (λ n. rate_bytes_of (record { ty = c.args.ty; shape = c.args.shape; mode = Rate n }) ≤ 1200000000) same is.fits in
    omega (arith, fits, c.rate_bytes.ensures, c.if-rate_bytes-gt-MAX_FILE.true)
