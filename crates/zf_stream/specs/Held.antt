-- The values of a slab that are held, and what is read to behind them.
use Rattle.std.specs.Prelude.{ℕ, ◌≡◌, ◌^◌, ◌++◌, ℤ, List, length, refl}
use Rattle.std.specs.Coded.{Coded, code_by, coded×, coded_list, coded_ℕ}
use Rattle.std.specs.Int.{Width}
use Rattle.zf_bits.specs.Reader.{Reader}
use Rattle.zf_header.specs.declared.header.Header.{Header}
use Rattle.zf_parse.specs.ReadStreams.{ReadsCode}

-- values, in the order of blocks, and how many there is room for
pub record Held (X : Type 0) : Type 0 where
  pub items : List X
  pub room : ℕ

-- stored as the pair of its fields
abbrev pub held_code : {X : Type 0} → Coded X → Coded (Held X)
held_code {X} code =
    code_by (List X × ℕ) (coded× (coded_list code) coded_ℕ) (λ h. (h.items, h.room)) (λ p. record { items = p.0; room = p.1 }) (λ _. refl)

-- the code of a block of which all values exist was read, and its values were put behind those before
pub record ReadsBehind (w : Width) (h : Header) (old new : Reader) (before now : List ℤ) : Type 0 where
  pub block : List ℤ
  pub code : ReadsCode w h.mode (length h.shape) old new block
  pub long : length block ≡ 4 ^ length h.shape
  pub behind : now ≡ before ++ block
