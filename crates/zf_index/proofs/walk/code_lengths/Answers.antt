use Rattle.std.{proofs.Common.{refl, ◌^◌, ◌<◌, length, arith, rules}, proofs.lemmas.Result.{IfErr-weaker}}
use Rattle.zf_spec.{specs.Stream.{to_bits}, proofs.Bytes.{length-to_bits}}
use Rattle.zf_index.proofs.Read.{has_header, is_header, index_is, fault_is}
use Rattle.zf_index.proofs.walk.code_lengths.Goals as goal

pub walk-requires-clause-header : goal.walk-requires-clause-header
walk-requires-clause-header c = is_header c.args.file.now c.args.h.now (has_header c.args.file.now c.args.h.now c.args.start c.requires.begun)

pub walk-requires-in-I64-clause-header : goal.walk-requires-in-I64-clause-header
walk-requires-in-I64-clause-header c = is_header c.args.file.now c.args.h.now (has_header c.args.file.now c.args.h.now c.args.start c.requires.begun)

pub returns-in-I32-clause-ok : goal.returns-in-I32-clause-ok
returns-in-I32-clause-ok c =
    let file = c.args.file.now in
    let few : length (to_bits file) < 2 ^ 64 = omega (arith, length-to_bits file, c.in-Some.ensures) in
    search (rules, index_is)

pub returns-in-I32-clause-fault : goal.returns-in-I32-clause-fault
returns-in-I32-clause-fault c =
    let file = c.args.file.now in
    IfErr-weaker c.walk.result _ _
    (λ e fault. fault_is file c.args.h.now c.args.start c.requires.begun _ e refl refl fault)
    c.walk.ensures.fault

pub returns-in-I64-clause-ok : goal.returns-in-I64-clause-ok
returns-in-I64-clause-ok c =
    let file = c.args.file.now in
    let few : length (to_bits file) < 2 ^ 64 = omega (arith, length-to_bits file, c.in-Some.ensures) in
    search (rules, index_is)

pub returns-in-I64-clause-fault : goal.returns-in-I64-clause-fault
returns-in-I64-clause-fault c =
    let file = c.args.file.now in
    IfErr-weaker c.walk-in-I64.result _ _
    (λ e fault. fault_is file c.args.h.now c.args.start c.requires.begun _ e refl refl fault)
    c.walk-in-I64.ensures.fault
