use Rattle.zf_planes.proofs.LaneTables.{lanes_of_entry}
use Rattle.zf_planes.proofs.in_lanes.planes_in_sight.Goals as goal

pub planes_of_entry-requires : goal.planes_of_entry-requires
planes_of_entry-requires c = (lanes_of_entry c.args.n c.args.bits c.entry_of_lanes.result c.requires.in_plane c.requires.bits c.entry_of_lanes.ensures).within

pub returns : goal.returns
returns c = rw (c.planes_of_entry.ensures.lanes, c.planes_of_entry.ensures.count, c.planes_of_entry.ensures.len, c.planes_of_entry.ensures.above) (lanes_of_entry c.args.n c.args.bits c.entry_of_lanes.result c.requires.in_plane c.requires.bits c.entry_of_lanes.ensures)
