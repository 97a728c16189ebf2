-- What is kept of planes when a budget cuts their code short (zfp 1.0 documentation, chapter Algorithm).
--     Only the lengths of codes count here; no code is read.
use Rattle.std.specs.Prelude.{ℕ, suc, zero, ◌-◌, min, max, Bool, true, false, ◌&&◌, nat_lt, nat_le, List, [], ◌∷◌, ◌++◌, length, take, drop, replicate, slice_index_or, if◌then◌else◌}
use Rattle.zf_spec.specs.Planes.{has_one, reach, reach_of_all, plane_code, code}

-- as many digits, all zero
abbrev pub zeros : List Bool → List Bool
zeros ds = replicate (length ds) false

-- a group whose bit is among the bits left and is one has what is kept of its run
abbrev pub kept_group : ℕ → List Bool → List Bool → List Bool
kept_group left ds run = if nat_lt 0 left && has_one ds then run else zeros ds

-- a run, and all behind it, with so many bits left behind its group bit: one that is cut has a one where it
-- is cut, and then zeros
abbrev pub kept_run : ℕ → List Bool → List Bool
kept_run behind [] = []
kept_run zero (d ∷ ds) = true ∷ zeros ds
kept_run (suc behind) (d ∷ []) = true ∷ []
kept_run (suc left) (true ∷ e ∷ ds) = true ∷ kept_group left (e ∷ ds) (kept_run (left - 1) (e ∷ ds))
kept_run (suc behind) (false ∷ e ∷ ds) = false ∷ kept_run behind (e ∷ ds)

-- what so many bits keep of the digits from rank n on
abbrev pub kept_tail : ℕ → List Bool → List Bool
kept_tail left ds = kept_group left ds (kept_run (left - 1) ds)

-- a plane whose code is cut: its first digits as far as the bits reach, zeros up to rank n, and what is kept
-- of the tail
abbrev pub cut_plane : ℕ → ℕ → List Bool → List Bool
cut_plane r n ds =
    let q = min n r in
    take q ds ++ zeros (drop q (take n ds)) ++ kept_tail (r - q) (drop n ds)

-- a plane is kept whole where its code fits
abbrev pub kept_plane : ℕ → ℕ → List Bool → List Bool
kept_plane r n ds = if nat_le (length (plane_code n ds)) r then ds else cut_plane r n ds

-- with r bits for the planes, each has what the codes above it leave
abbrev pub kept_planes_from : ℕ → ℕ → List (List Bool) → List (List Bool)
kept_planes_from r n [] = []
kept_planes_from r n (ds ∷ planes) = kept_plane r n ds
    ∷ kept_planes_from (r - length (plane_code n ds)) (max n (reach ds)) planes

-- what a budget keeps of the planes of a block
abbrev pub kept_planes : ℕ → List (List Bool) → List (List Bool)
kept_planes budget planes = kept_planes_from budget 0 planes

-- how many bits of a budget are left for plane k among planes: those that the codes of all planes above do
-- not take
abbrev pub left_at : ℕ → List (List Bool) → ℕ → ℕ
left_at budget planes k = budget - length (code (take k planes))

-- what is kept of plane k among planes, counted from the greatest
abbrev pub kept_at : ℕ → List (List Bool) → ℕ → List Bool
kept_at budget planes k = kept_plane (left_at budget planes k) (reach_of_all (take k planes))
    (slice_index_or planes k [])
