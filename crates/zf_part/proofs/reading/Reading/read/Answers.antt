use Rattle.std.proofs.Common.{sym, ap, subst, ◌-◌, ◌*◌, ◌%◌, ◌<◌, ◌≤◌, map, length, arith}
use Rattle.zf_spec.{specs.Grid.{blocks}, proofs.Bytes.{length-to_bits}}
use Rattle.zf_parse.specs.Parsing.{longest_code}
use Rattle.zf_part.{specs.Blocks.{IsBlockOf}, specs.Readings.{Reading, IsRight, IsFound}}
use Rattle.zf_part.proofs.Spans.{right_within, found_there}
use Rattle.zf_part.proofs.reading.Reading.read.Goals as goal

pub at-at-requires : goal.at-at-requires
at-at-requires g c = omega (arith, c.requires.in_array, c.self.invariant.count, ap (λ (r : Reading). blocks r.header.shape) c.self.view_is)

pub returns-clause-found : goal.returns-clause-found
returns-clause-found g c =
    let s = c.self.inside in
    let is = c.self.view_is in
    let block = map g.T.Lane.value c.read_code.new.block in
    let Found : Reading → Type 0 = λ r. IsFound r c.read_code.result (IsBlockOf r.bytes r.header c.args.b block) in
    let below : c.args.b < blocks s.h.now.shape = omega (arith, c.requires.in_array, ap (λ (r : Reading). blocks r.header.shape) is) in
    let m = 64 * length c.args.words.now - c.at-at.result % 64 in
    let enough : longest_code s.h.now ≤ m = omega (arith, c.requires.room.enough, ap (λ (r : Reading). longest_code r.header) is) in
    subst Found is
    (found_there s.stream.now s.h.now c.args.b below s.places c.at-at.result c.at-at.ensures c.of_file.result m enough c.of_file.ensures.bits g.T.Lane.width c.self.invariant.same_type
    c.read_code.result c.read_code.new.reader block c.read_code.ensures.some c.read_code.ensures.none)

pub returns-then-div_ceil-self-clause-found : goal.returns-then-div_ceil-self-clause-found
returns-then-div_ceil-self-clause-found g c =
    let s = c.self.inside in
    let is = c.self.view_is in
    let below : c.args.b < blocks s.h.now.shape = omega (arith, c.requires.in_array, ap (λ (r : Reading). blocks r.header.shape) is) in
    record {
      some = tt;
      none = λ right.
          let within = right_within s.stream.now s.h.now c.args.b below s.places c.at-at.result c.at-at.ensures (subst IsRight (sym is) right) in
          absurd (omega (arith, length-to_bits s.stream.now, within));
    }
