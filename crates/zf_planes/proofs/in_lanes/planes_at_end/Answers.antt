use Rattle.std.proofs.Common.{rules, ◌≡◌, ℕ, ◌*◌, ◌%◌, ◌^◌, ◌<◌, ◌≤◌, min, sym, ap, ◌∙◌, arith}
use Rattle.std.{proofs.Math.Nat.{mod-lt}, proofs.lemmas.Nat.{one_shl, pow_pos}, proofs.lemmas.Bool.{lt-ltb, le-ltb}}
use Rattle.zf_spec.proofs.Fields.{field-mod}
use Rattle.zf_planes.specs.Lanes.{lanes_apart, entry_digits, entry_len, entry_count, entry_reach, AreAtEnd}
use Rattle.zf_planes.proofs.LaneTables.{less_entry, end_entry, last_of_entry}
use Rattle.zf_planes.proofs.in_lanes.planes_at_end.Goals.{Joined-reach_of_lanes-gt3, then-reach_of_lanes-gt3, else-reach_of_lanes-gt3}
use Rattle.zf_planes.proofs.in_lanes.planes_at_end.Goals as goal

least : (zeros one e : ℕ) → 3 < entry_reach zeros → e ≡ min zeros one → e ≡ less_entry zeros one
least zeros one e far is = rw (lt-ltb 3 (entry_reach zeros) far) is

first : (zeros one e : ℕ) → entry_reach zeros ≤ 3 → e ≡ zeros → e ≡ less_entry zeros one
first zeros one e near is = rw (le-ltb 3 (entry_reach zeros) near) is

-- what the entry says
entry : (c : Joined-reach_of_lanes-gt3) → let e = c.if-reach_of_lanes-gt3.entry in AreAtEnd c.args.n c.args.left c.args.bits (entry_count e) (lanes_apart (entry_digits e)) (min (entry_len e) c.args.left) (entry_reach e)
entry c =
    let left = c.args.left in
    let power : 1 * 2 ^ left % 2 ^ 64 ≡ 2 ^ left = one_shl left 64 (omega arith) in
    let is : c.if-reach_of_lanes-gt3.entry ≡ end_entry c.args.n (1 * 2 ^ left % 2 ^ 64) (c.args.bits % (1 * 2 ^ left % 2 ^ 64)) =
    search (rules, then-reach_of_lanes-gt3, else-reach_of_lanes-gt3, least, first) in
    let found = last_of_entry c.args.n left (c.args.bits % 2 ^ left) c.if-reach_of_lanes-gt3.entry c.requires.in_plane c.requires.some c.requires.few (mod-lt c.args.bits (pow_pos left))
    (is ∙ ap (λ (p : ℕ). end_entry c.args.n p (c.args.bits % p)) power) in
    let same = sym (field-mod left c.args.bits) in search rules

pub planes_of_entry-found-requires : goal.planes_of_entry-found-requires
planes_of_entry-found-requires c = (entry c).within

pub returns : goal.returns
returns c =
    let found = c.planes_of_entry-found.ensures in
    rw (c.min.ensures, found.lanes, found.count, found.len, found.above) (entry c.before.before.before)
