use Rattle.std.proofs.Common.{◌≡◌, ◌+◌, ◌-◌, ◌<◌, ◌≤◌, ◌^◌, ◌++◌, pos, replicate, suc, true, map, length, length-append, refl, subst, sym, ap, ◌∙◌, arith}
use Rattle.std.{proofs.lemmas.List.{length-map, length-replicate}, proofs.Math.Nat.{mul-le-mul_left}}
use Rattle.zf_spec.specs.Grid.{blocks}
use Rattle.zf_pad.proofs.Appended.{whole_block}
use Rattle.zf_stream.{specs.Restoring.{ReadsRun, ReadsStored}, proofs.Runs.{place_behind, stored_code}}
use Rattle.zf_stream.proofs.decoding.read_zeros.Goals as goal

pub append_zeros-requires-clause-room : goal.append_zeros-requires-clause-room
append_zeros-requires-clause-room g c =
    let ns = c.args.part.now.shape in
    let n = c.loop-n.n in
    let whole : c.args.whole ≡ true = cc in
    let up : n + 1 ≤ blocks ns - c.args.b = omega (arith, c.loop-n-test.true, c.blocks-blocks.ensures.value) in
    omega (arith, c.requires.values whole, c.requires.size, c.loop-n.invariant.long, c.loop-n.invariant.values, mul-le-mul_left (4 ^ length ns) up)

pub loop-n-preserved : goal.loop-n-preserved
loop-n-preserved g c =
    let h = c.args.part.now in
    let ns = h.shape in
    let b = c.args.b in
    let n = c.loop-n.n in
    let value = g.T.Lane.value in
    let so_far = c.loop-n.invariant in
    let old = c.loop-n.reader in
    let new = c.pass_zero_code.new.reader in
    let before = map value c.loop-n.stored.items in
    let now = map value c.append_zeros.new.self.items in
    let none = replicate (4 ^ length ns) (pos 0) in
    let reads = c.pass_zero_code.ensures.reads c.if-pass_zero_code.true in
    let put : now ≡ before ++ none = c.append_zeros.ensures.items ∙ ap (λ k. before ++ replicate k (pos 0)) c.requires.size in
    let whole : c.args.whole ≡ true = cc in
    let lt : b + n < blocks ns = omega (arith, c.loop-n-test.true, c.blocks-blocks.ensures.value) in
    let next : n + 1 ≡ suc n = omega arith in
    let appended = whole_block ns (b + n) none before now (c.requires.known whole) lt (length-replicate (4 ^ length ns) (pos 0)) put in
    let stored : ReadsStored h (b + n) old new before now = stored_code h (b + n) g.T.Lane.width old new _ _ before now c.requires.same_type reads refl appended in
    record {
      within = omega (arith, lt);
      read = subst (λ k. ReadsRun h b k c.args.window.now.reader new (map value c.args.stored.now.items) now) (sym next) (old, (before, (so_far.read, stored)));
      place = place_behind old new _ reads.passed ∙ so_far.place;
      all = reads.passed.all ∙ so_far.all;
      long = omega (arith, so_far.long, ap length put, length-append before none, length-replicate (4 ^ length ns) (pos 0), length-map c.loop-n.stored.items value, length-map c.append_zeros.new.self.items value);
      values = omega (arith, so_far.values, c.append_zeros.ensures.room);
    }
