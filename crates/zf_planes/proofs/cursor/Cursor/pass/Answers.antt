use Rattle.std.proofs.Common.{rules, ◌-◌, ◌/◌, ◌^◌, Bool, List, sym, subst, arith}
use Rattle.zf_bits.specs.Reader.{rest}
use Rattle.zf_planes.{specs.Decoding.{IsWindow}, proofs.Passing.{Takes-rest}}
use Rattle.zf_planes.proofs.Peeking.{window_long, window_passed, Takes-skip}
use Rattle.zf_planes.proofs.cursor.Cursor.pass.Goals as goal

pub invariant_of-self : goal.invariant_of-self
invariant_of-self c =
    let now = c.args.self.now in
    let n = c.args.n in
    let P : List Bool → Type 0 = λ s. IsWindow (now.left - n) (now.bits / 2 ^ (n - 1) / 2) (now.count - n) s in
    let there = window_long (rest now.reader) now.bits now.count now.window.bits in
    let taken = Takes-skip now.left n (omega (arith, c.requires.within, now.window.within)) (omega (arith, c.requires.within, there)) c.skip.ensures in
    record { window = subst P (sym (Takes-rest taken)) (window_passed (rest now.reader) now.left now.bits now.count n now.window c.requires.some c.requires.within) }

pub returns-clause-taken : goal.returns-clause-taken
returns-clause-taken c = search (rules, window_long)
