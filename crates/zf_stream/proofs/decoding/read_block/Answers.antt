use Rattle.std.proofs.Common.{rules, ◌≡◌, ℕ, ◌+◌, ℤ, List, length, sym, ap, ◌∙◌}
use Rattle.zf_bits.specs.Reader.{Reader, rest}
use Rattle.zf_header.specs.declared.header.Header.{Header}
use Rattle.zf_stream.{specs.Restoring.{ReadsStored}, specs.Windows.{Window}}
use Rattle.zf_stream.proofs.decoding.read_block.Goals as goal

-- a window that went to where its reader stands
module _ (w v : Window) (mid new : Reader) (at : ℕ) (from : mid ≡ w.reader) (all : new.all ≡ mid.all) (is : at ≡ new.at) (gone : v ≡ record { reader = record { all = w.reader.all; at = at }; room = w.room; ended = w.ended }) where
  same : new ≡ v.reader
  same = search rules

  block_read : {h : Header} {b : ℕ} {before now : List ℤ} → ReadsStored h b mid new before now → ReadsStored h b w.reader v.reader before now
  block_read {h} {b} {before} {now} read = search (rules, same)

  place_read : new.at + length (rest new) ≡ mid.at + length (rest mid) → v.reader.at + length (rest v.reader) ≡ w.reader.at + length (rest w.reader)
  place_read place = ap (λ r. r.at + length (rest r)) (sym same) ∙ place ∙ ap (λ r. r.at + length (rest r)) from

pub returns-clause-some : goal.returns-clause-some
returns-clause-some g c = search (rules, block_read)

pub returns-clause-place : goal.returns-clause-place
returns-clause-place g c = search (rules, place_read)
