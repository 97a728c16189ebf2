-- The length of a stream with a fixed rate.
use Rattle.zf_header.proofs.Modes.{mode_is_rate}
use Rattle.std.{proofs.Common.{◌≡◌, ℕ, ◌+◌, ◌*◌, ℤ, List, length}, specs.Int.{Width, div_ceil}}
use Rattle.zf_base.specs.Widths.{width_of}
use Rattle.zf_spec.{specs.Codes.{rate}, specs.Grid.{upto, blocks, extent_of, block_of}}
use Rattle.zf_spec.{specs.Stream.{fixed_rate, header, stream}, proofs.BlockReading.{length-rate}}
use Rattle.zf_spec.{proofs.Counting.{length-upto}, proofs.Files.{length-file}}
use Rattle.zf_header.specs.declared.header.Header.{Header}
use Rattle.zf_header.specs.HeaderBits.{coding, block_bits, IsRate, header_bits, rate_bytes_of}

length-stream_rate : (w : Width) (ns : List ℕ) (b : ℕ) (values : List ℤ) → length (stream w ns (fixed_rate b) values) ≡ 8 * div_ceil (length (header w ns (fixed_rate b)) + blocks ns * b) 64
unfolding stream
length-stream_rate w ns b values =
    simp length-upto at (length-file w ns (fixed_rate b) (λ k. rate w b (extent_of ns k) (block_of ns values k)) b (upto (blocks ns)) (λ k. length-rate w b (extent_of ns k) (block_of ns values k)))

pub length-stream : (h : Header) (values : List ℤ) → IsRate h.mode → length (stream (width_of h.ty) h.shape (coding h.mode) values) ≡ rate_bytes_of h
unfolding header_bits
length-stream h values is = rw (mode_is_rate h.mode is) (length-stream_rate (width_of h.ty) h.shape (block_bits h.mode) values)
