use Rattle.std.{proofs.Common.{rules}, proofs.Math.Nat.{pow-le-pow_right}}
use Rattle.zf_planes.{proofs.Doubled.{plane_without}, proofs.Placing.{reach_below}}
use Rattle.zf_planes.proofs.word_writing.plain_plane.Goals as goal

pub returns : goal.returns
returns c = search (rules, plane_without, pow-le-pow_right, reach_below)
