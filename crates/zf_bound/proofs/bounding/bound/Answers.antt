use Rattle.std.proofs.Common.{ap, subst, ◌∙◌, length, arith, rules}
use mir.Val.{bits}
use Rattle.zf_spec.specs.Stream.{to_bits}
use Rattle.zf_index.{proofs.Read.{is_header}, specs.Spans.{codes_in}}
use Rattle.zf_bound.{specs.Errors.{IsSmallEnough}, specs.Bounds.{plane_of, error_of}}
use Rattle.zf_bound.proofs.Indexed.{are_inside, is_said, bound_holds}
use Rattle.zf_bound.proofs.bounding.bound.Goals as goal

pub stream_plane-plane-requires-clause-inside : goal.stream_plane-plane-requires-clause-inside
stream_plane-plane-requires-clause-inside g c =
    are_inside c.args.file.now c.args.h.now c.in_ok-index.index c.in_ok-index.ensures.ok c.requires.rate _ (omega (arith, c.in_ok-excerpt.ensures))

pub returns-clause-plane : goal.returns-clause-plane
returns-clause-plane g c = search (rules, is_said)

pub returns-clause-bound : goal.returns-clause-bound
returns-clause-bound g c holds =
    bound_holds c.args.file.now c.args.h.now c.in_ok-index.index c.in_ok-index.ensures.ok c.requires.rate
    c.args.m c.stream_plane-plane.result c.error_from-error.result g.T.Lane.WIDTH (is_header c.args.file.now c.args.h.now c.requires.header).shape
    (c.stream_plane-plane.ensures.value ∙ ap (λ v. plane_of v (length c.args.h.now.shape) (codes_in c.in_ok-index.index (to_bits c.args.file.now))) c.requires.same_type)
    (c.error_from-error.ensures.value ∙ ap (λ n. error_of n c.stream_plane-plane.result) c.dims.ensures.value)
    (g.met.T.Lane.bits_of_width ∙ ap bits c.requires.same_type)
    (subst (λ n. IsSmallEnough n c.args.m c.error_from-error.result) c.WIDTH.ensures (c.is_small_enough.ensures.0 holds))
