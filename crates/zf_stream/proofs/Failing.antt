-- Calls that fail only where a device does, one after another.
use Rattle.std.proofs.Common.{◌≡◌, Ok, Err}
use Rattle.zf_dev.{specs.declared.source.Source.{Ghosts as Source}, specs.declared.sink.Sink.{Ghosts as Sink}}
use Rattle.zf_dev.{specs.Devices.{Reads, Writes}, proofs.Devices.{Reads-by, Writes-by}}
use Rattle.zf_parse.specs.declared.fault.StreamFault.TheVariants.{Read, Write}
use Rattle.zf_stream.specs.Outcomes.{ReadsOnly, WritesOnly}

module _ {A T : Type 0} {S : Source A} where
  -- no call failed
  pub Reads-ok : {a b : A} (x : T) → Reads S ⊥ a b → Reads S (Ok x ≡ Err Read) a b
  Reads-ok {a} {b} x reads = Reads-by reads (λ same. cc)

  pub ReadsOnly-ok : {a b : A} (x : T) → Reads S ⊥ a b → ReadsOnly S (Ok x) a b
  ReadsOnly-ok {a} {b} x reads = record { fault = tt; device = Reads-ok x reads }

module _ {A T : Type 0} {O : Sink A} where
  pub Writes-ok : {a b : A} (x : T) → Writes O ⊥ a b → Writes O (Ok x ≡ Err Write) a b
  Writes-ok {a} {b} x writes = Writes-by writes (λ same. cc)

  pub WritesOnly-ok : {a b : A} (x : T) → Writes O ⊥ a b → WritesOnly O (Ok x) a b
  WritesOnly-ok {a} {b} x writes = record { fault = tt; device = Writes-ok x writes }
