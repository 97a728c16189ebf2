use Rattle.std.proofs.Common.{◌≡◌, refl, sym, ap, ◌∙◌, ◌≤◌, ◌^◌, Bool, List, length, arith, map, ℤ}
use Rattle.zf_base.{specs.Formats.{Format, existing_of}, proofs.Formats.{length-existing_of}}
use Rattle.zf_cached.specs.Touch.{touch_for_writing}
use Rattle.zf_header.specs.declared.header.Header.{Header}
use Rattle.zf_store.specs.Stored.{format_of}
use Rattle.zf_lines.specs.Rows.{over}
use Rattle.zf_array.{specs.Loans.{spliced}, proofs.Standing.{format_now, has_blocks}}
use Rattle.zf_array.{proofs.Lent.{spliced_all, header_block}, specs.Standing.{format, state}}
use Rattle.zf_array.proofs.array.Array.block_mut.Goals as goal

pub returns : goal.returns
returns g c =
    let b = c.args.b in
    let now = c.args.self.now in
    let a = c.touch_mut.new.self in
    let n = c.block_len-len.result in
    let r = c.part_mut.result.now in
    let value = g.T.Lane.value in
    let f = format now in
    let u = touch_for_writing f (state now) b in
    let head : a.header ≡ now.header = c.touch_mut.ensures.header in
    let same : format a ≡ f = ap (λ (h : Header). format_of (record { header = h; codes = a.codes })) head in
    let is : state a ≡ u = c.touch_mut.ensures.state in
    let shows : existing_of f b (spliced (u.values b) 0 n (map value r)) ≡ u.values b = cc (c.part_mut.ensures.value) in
    let places : n ≡ 4 ^ g.row.D = cc (c.block_len-len.ensures.value, c.dims.ensures.value, c.header.ensures.value, c.self.invariant.dims) in
    let room : f.block_len ≡ 4 ^ g.row.D = ap (λ (q : Format (List Bool)). q.block_len) (format_now _ _ _ _ _ _ c.self.invariant c.args.self.now c.self.view_is) ∙ (has_blocks _ _ _ _ _ _ c.self.invariant).0 in
    let long : length (u.values b) ≤ n = omega (arith, sym (ap length shows) ∙ length-existing_of f b (spliced (u.values b) 0 n (map value r)), places, room) in
    let all = λ (vs : List ℤ). spliced_all (u.values b) vs n long in
    let given = c.part_mut.ensures in (
      (refl, λ w. cc (all (map value (over r w)))),
      record { writes_back = tt; value = cc (all (map value r)); size = given.size ∙ places; state = λ vs. cc (all vs, given.state vs); header = header_block now b },
    )
