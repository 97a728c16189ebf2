use Rattle.std.proofs.Common.{refl, arith, Option, Some, None}
use Rattle.std.specs.Option.{OnSome}
use Rattle.zf_pad.proofs.Appended.{whole_block, whole_size}
use Rattle.zf_stream.{proofs.Runs.{place_behind, stored_code}}
use Rattle.zf_stream.proofs.decoding.read_next.Goals as goal

on_some : {A : Type 0} {P Q : Type 0} (r : Option A) → (P → Q) → OnSome r P → OnSome r Q
on_some None weaker holds = tt
on_some (Some x) weaker holds = weaker holds

pub read_whole-requires-clause-room : goal.read_whole-requires-clause-room
read_whole-requires-clause-room g c =
    omega (arith, c.requires.values, c.requires.size, whole_size c.args.part.now.shape c.args.b (c.requires.known c.if-whole.true) c.requires.in_array)

pub returns-then-whole-clause-some : goal.returns-then-whole-clause-some
returns-then-whole-clause-some g c =
    let h = c.args.part.now in
    on_some c.read_whole.result
    (λ read. stored_code h c.args.b g.T.Lane.width _ _ read.block _ _ _ c.requires.same_type read.code refl
    (whole_block h.shape c.args.b read.block _ _ (c.requires.known c.if-whole.true) c.requires.in_array read.long read.behind))
    c.read_whole.ensures.some

pub returns-then-whole-clause-place : goal.returns-then-whole-clause-place
returns-then-whole-clause-place g c = on_some c.read_whole.result (λ read. place_behind _ _ _ read.code.passed) c.read_whole.ensures.some

pub returns-then-whole-clause-all : goal.returns-then-whole-clause-all
returns-then-whole-clause-all g c = on_some c.read_whole.result (λ read. read.code.passed.all) c.read_whole.ensures.some

pub returns-clause-some : goal.returns-clause-some
returns-clause-some g c = stored_code c.args.part.now c.args.b g.T.Lane.width _ _ _ _ _ _ c.requires.same_type c.in_ok-read_code.ensures.some refl c.append_block.ensures.block

pub returns-clause-place : goal.returns-clause-place
returns-clause-place g c = place_behind _ _ _ c.in_ok-read_code.ensures.some.passed

pub returns-clause-all : goal.returns-clause-all
returns-clause-all g c = c.in_ok-read_code.ensures.some.passed.all
