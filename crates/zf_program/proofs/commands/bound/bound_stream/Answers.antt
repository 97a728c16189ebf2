use Rattle.std.proofs.Common.{◌≡◌, IfOk, subst, refl, ◌∙◌}
use Rattle.zf_bound.specs.Bounds.{certified_of}
use Rattle.zf_parse.specs.Parsing.{parse}
use Rattle.zf_words.specs.declared.command.Command.TheVariants.{Bound}
use Rattle.zf_program.specs.Faults.{index_status}
use Rattle.zf_program.specs.declared.status.Status.TheVariants.{Done, ReadFault, WriteFault, LoadFault, SaveFault}
use Rattle.zf_program.{proofs.Causes.{HasCauses-wrote}, proofs.Subjects.{RefusesFile-index}}
use Rattle.zf_program.proofs.Statuses.{differ}
use Rattle.zf_program.proofs.Certifying.{said_good, Certifies-refused, Behaves-certified, Behaves-cut_certified, Behaves-no_codes}
use Rattle.zf_program.proofs.commands.bound.bound_stream.Goals as goal

pub returns-in-Ok-write_all : goal.returns-in-Ok-write_all
returns-in-Ok-write_all g c =
    let line = c.as_bytes.ensures.value ∙ (c.as_str.ensures.value ∙ c.bound_line-line.ensures) in
    let good = said_good (parse c.args.file.now) c.in-Ok.ensures.good in
    let is = subst (λ answer. IfOk answer (λ said. c.in-Ok.certified ≡ certified_of c.args.header.now said.codes c.args.most)) good.1 c.in-Ok.ensures.certified in
    record {
      behaves = λ src known now holds kept. Behaves-certified c.args.name.now c.args.most c.args.file.now c.args.header.now good.0 known now holds kept c.requires.header c.requires.rate good.1 c.in-Ok.certified c.as_bytes.result.now src _ _ is line c.in-Ok-write_all.ensures.all;
      causes = λ src. HasCauses-wrote (Bound c.args.name.now c.args.most) Done src _ _ refl c.write_all.ensures.cause.0 (differ Done ReadFault refl) (λ fault. absurd (differ Done WriteFault refl fault));
      shelfless = record { no_load = differ Done LoadFault refl; no_save = differ Done SaveFault refl };
    }

pub returns-in-Err-write_all : goal.returns-in-Err-write_all
returns-in-Err-write_all g c =
    let line = c.as_bytes.ensures.value ∙ (c.as_str.ensures.value ∙ c.bound_line-line.ensures) in
    let good = said_good (parse c.args.file.now) c.in-Ok.ensures.good in
    let is = subst (λ answer. IfOk answer (λ said. c.in-Ok.certified ≡ certified_of c.args.header.now said.codes c.args.most)) good.1 c.in-Ok.ensures.certified in
    record {
      behaves = λ src known now holds kept. Behaves-cut_certified c.args.name.now c.args.most c.args.file.now c.args.header.now good.0 known now holds kept c.requires.header c.requires.rate good.1 c.in-Ok.certified c.as_bytes.result.now src _ _ is line c.write_all.ensures.prefix;
      causes = λ src. HasCauses-wrote (Bound c.args.name.now c.args.most) WriteFault src _ _ refl c.write_all.ensures.cause.0 (differ WriteFault ReadFault refl) (λ fault. c.in-Err-write_all.ensures.cause.1 refl);
      shelfless = record { no_load = differ WriteFault LoadFault refl; no_save = differ WriteFault SaveFault refl };
    }

pub returns-in-Err : goal.returns-in-Err
returns-in-Err g c =
    let e = c.in-Err.fault in
    rw c.from.ensures (Certifies-refused c.args.name.now c.args.most c.args.file.now (index_status e) _ (RefusesFile-index e)
    (λ src known now holds kept. Behaves-no_codes c.args.name.now c.args.most e c.args.file.now c.args.header.now src _ known now holds kept c.requires.header c.requires.rate c.in-Err.ensures.fault))
