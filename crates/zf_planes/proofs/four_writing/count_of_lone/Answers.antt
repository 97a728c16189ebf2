use Rattle.std.{proofs.Common.{rules, ◌≡◌, ℕ, List, map, get_or, subst, arith}, specs.Int.RustNames.{bit_or}}
use Rattle.std.{proofs.lemmas.Grind.{common_steps}, proofs.lemmas.Nat.{or_lt}}
use Rattle.zf_spec.{specs.Grid.{upto}, proofs.Counting.{four_elements}}
use Rattle.zf_planes.{specs.Spread.{top_digit, top_planes, lone_planes}}
use Rattle.zf_planes.proofs.Lone.{lone_top}
use Rattle.zf_planes.proofs.four_writing.count_of_lone.Goals as goal

pub returns : goal.returns
returns c =
    let words = c.args.words.now in
    let m = c.min-2.result in
    let P : List ℕ → Type 0 = λ ws. top_planes m ws ≡ lone_planes (map (top_digit (get_or words 0 0)) (upto m)) in
    record {
      most = omega (arith, c.min.ensures, c.min-2.ensures);
      few = omega (arith, c.min-2.ensures);
      first = λ some. first_of (search (rules, c.fits-words 0), grind (arith, common_steps, c.fits-words 0));
      lone =
          subst P (four_elements words (omega arith))
          (lone_top m (get_or words 0 0) (get_or words 1 0) (get_or words 2 0) (get_or words 3 0) (omega (arith, c.min.ensures, c.min-2.ensures)) (omega (arith, c.min-2.ensures))
          (or_lt 64 (bit_or (get_or words 1 0) (get_or words 2 0)) (get_or words 3 0) (or_lt 64 (get_or words 1 0) (get_or words 2 0) (c.fits-words 1) (c.fits-words 2)) (c.fits-words 3)));
    }
