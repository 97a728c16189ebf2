-- The codes so far are on their way.
use Rattle.std.{proofs.Common.{◌<◌, ◌++◌, map, length}, specs.List.{flat_map}}
use Rattle.zf_spec.{specs.Grid.{upto, extent_of, block_of}, specs.Stream.{block_code}}
use Rattle.zf_header.specs.HeaderBits.{coding}
use Rattle.zf_stream.{specs.Flows.{Flows}, specs.Rooms.{Keeps}}
use Rattle.zf_dev.specs.Devices.{Writes}
use Rattle.zf_stream.proofs.encoding.write_codes.Given as goal

pub record Coded (g : goal.Over) (l : goal.Live-loop-b g) : Type 0 where
  pub flows : Flows (g.O.Sink.contents l.fn.out) (g.O.Sink.contents l.out) (l.fn.room.codes.bits ++ flat_map (λ c. c) (map (λ b. block_code g.T.Lane.width (coding l.h.mode) (extent_of l.h.shape b) (block_of l.h.shape (map g.T.Lane.value l.values) b)) (upto l.b))) l.room.codes.bits
  pub few : length l.room.codes.bits < l.room.most
  pub keeps : Keeps l.fn.room l.room
  pub sink : Writes g.O.Sink ⊥ l.fn.out l.out

abbrev pub invariant-loop-b : goal.invariant-loop-b
invariant-loop-b g l = Coded g l
