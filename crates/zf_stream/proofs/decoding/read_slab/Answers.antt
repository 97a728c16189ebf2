use Rattle.std.proofs.Common.{rules, ◌≡◌, ◌^◌, ℤ, map, length, Bool, true, false, List, [], ◌++◌, None, Ok, refl, sym, ap, ◌∙◌, arith}
use Rattle.std.{proofs.lemmas.List.{append-nil, length-map}, proofs.lemmas.Result.{err_from_is_err_and}, proofs.lemmas.Bool.{false≢true}}
use Rattle.zf_spec.{specs.Grid.{blocks, extent_of}}
use Rattle.zf_pad.proofs.Stored.{stored_before, stores_none, blocks_stored, all_stored}
use Rattle.zf_base.{specs.Widths.{width_of}, proofs.Extents.{length-extent_of}}
use Rattle.zf_bits.specs.Reader.{rest}
use Rattle.zf_dev.proofs.Devices.{Reads-none, Reads-more}
use Rattle.zf_stream.proofs.Drawing.{Draws-append, DrawsSome-append}
use Rattle.zf_parse.{specs.Parsing.{read_code}, proofs.Enough.{enough_for_one}}
use Rattle.zf_parse.proofs.Joining.{read_codes-cut}
use Rattle.zf_stream.{specs.Windows.{left_of}, specs.Restoring.{stream_from}, proofs.Failing.{Reads-ok}}
use Rattle.zf_stream.{proofs.Windows.{Goes-none, Goes-next, Goes-read}, proofs.Runs.{run_more, run_none, run_of_none, read_more, read_refilled, room_for_one, room_for_rest}}
use Rattle.zf_stream.proofs.Rooms.{Stays-next, still_restores}
use Rattle.zf_stream.proofs.decoding.read_slab.Goals as goal

pub loop-b-init : goal.loop-b-init
loop-b-init g c = record {
  within = omega arith;
  look = c.has_whole_blocks-whole.ensures.whole;
  bytes = [];
  goes = Goes-none _ _;
  read = record {
    found = [];
    count = refl;
    codes = ap (λ (s : List Bool). Ok ([], s)) (append-nil (left_of c.args.room.now.window));
    stores = rw c.clear.ensures.items (stores_none c.args.part.now.shape);
  };
  stays = record { rows = refl; longest = refl; held = refl; values = omega (arith, c.clear.ensures.room) };
  ended = c.requires.room.ended;
  source = Reads-none _;
}

pub returns-in_err-reach-clause-err : goal.returns-in_err-reach-clause-err
returns-in_err-reach-clause-err g c =
    let p = err_from_is_err_and c.from_residual.result c.from_residual.ensures.1 in
    rw (p.1, p.2, c.in_err-reach.ensures.reaches.source.fault)
    (DrawsSome-append _ c.loop-b.invariant.goes.drawn c.in_err-reach.ensures.reaches.drawn)

-- a source that is not at its end would have given enough
at_end : (ended : Bool) (Enough End : Type 0) → (ended ≡ false → Enough) → ¬ Enough → (ended ≡ true → End) → End
at_end true Enough End enough none end = end refl
at_end false Enough End enough none end = absurd (none (enough refl))

pub read_zeros-zeros-requires-clause-values : goal.read_zeros-zeros-requires-clause-values
read_zeros-zeros-requires-clause-values g c =
    let so_far = c.loop-b.invariant in
    λ whole.
    room_for_rest c.args.part.now c.loop-b.b (length c.loop-b.room.stored.items) _ _ _ _ so_far.read (so_far.look whole) (omega (arith, c.loop-b-test.true, c.blocks-blocks.ensures.value))
    (omega (arith, length-map c.loop-b.room.stored.items g.T.Lane.value)) (omega (arith, so_far.stays.values, c.requires.room.values))

pub returns-in_default-clause-err : goal.returns-in_default-clause-err
returns-in_default-clause-err g c =
    let h = c.args.part.now in
    let b = c.loop-b.b in
    let es = extent_of h.shape b in
    let window = c.read_zeros-zeros.new.window in
    let refill = c.in_ok-reach.ensures.reaches.ok in
    let so_far = c.loop-b.invariant in
    let bytes = so_far.bytes ++ refill.bytes in
    let read =
    run_none h b _ _ _ _ _ _ c.if-zeros-gt0.false c.read_zeros-zeros.ensures.read (read_refilled h b c.args.room.now.window so_far.bytes _ so_far.read refill) in
    let none : read_code (width_of h.ty) h.mode es (left_of window) ≡ None =
    ap (λ w. read_code w h.mode es (left_of window)) (sym c.requires.same_type) ∙ c.in_default.ensures.none.code es (length-extent_of h.shape b) in
    let unread = (run_of_none h b _ _ _ _ _ c.if-zeros-gt0.false c.read_zeros-zeros.ensures.read).0 in
    let none_there : read_code (width_of h.ty) h.mode es (left_of c.reach.new.self) ≡ None = ap (λ r. read_code (width_of h.ty) h.mode es (rest r)) (sym unread) ∙ none in
    record {
      bytes = bytes;
      drawn = Draws-append _ _ so_far.goes.drawn refill.goes.drawn;
      ended = search (rules, at_end, enough_for_one, length-extent_of);
      block = b;
      number_is = refl;
      codes = read_codes-cut h b (blocks h.shape) (stream_from c.args.room.now.window bytes) (left_of window) read.found
          (omega (arith, c.loop-b-test.true, c.blocks-blocks.ensures.value)) read.codes none;
    }

pub read_block-read-requires-clause-values : goal.read_block-read-requires-clause-values
read_block-read-requires-clause-values g c =
    let h = c.args.part.now in
    let b = c.loop-b.b in
    let so_far = c.loop-b.invariant in
    let read =
    run_none h b _ _ _ _ _ _ c.if-zeros-gt0.false c.read_zeros-zeros.ensures.read (read_refilled h b c.args.room.now.window so_far.bytes _ so_far.read c.in_ok-reach.ensures.reaches.ok) in
    room_for_one h b (length c.read_zeros-zeros.new.stored.items) _ _ _ _ read (omega (arith, c.loop-b-test.true, c.blocks-blocks.ensures.value))
    (omega (arith, length-map c.read_zeros-zeros.new.stored.items g.T.Lane.value)) (omega (arith, so_far.stays.values, c.read_zeros-zeros.ensures.values, c.requires.room.values))

pub loop-b-preserved-then-zeros-gt0 : goal.loop-b-preserved-then-zeros-gt0
loop-b-preserved-then-zeros-gt0 g c =
    let h = c.args.part.now in
    let b = c.loop-b.b in
    let refill = c.in_ok-reach.ensures.reaches.ok in
    let so_far = c.loop-b.invariant in
    let zeros = c.read_zeros-zeros.ensures in
    record {
      within = zeros.within;
      look = λ is. absurd (false≢true is);
      bytes = so_far.bytes ++ refill.bytes;
      goes = Goes-read (Goes-next so_far.goes refill.goes) zeros.place;
      read = run_more h b _ _ _ _ _ _ zeros.read (read_refilled h b c.args.room.now.window so_far.bytes _ so_far.read refill);
      stays = Stays-next so_far.stays (record { rows = refl; longest = refl; held = zeros.room ∙ refill.room; values = zeros.values });
      ended = λ is. c.in_ok-reach.ensures.reaches.ended (sym zeros.ended ∙ is);
      source = Reads-more so_far.source c.reach.ensures.reaches.source.device;
    }

pub loop-b-preserved : goal.loop-b-preserved
loop-b-preserved g c =
    let h = c.args.part.now in
    let b = c.loop-b.b in
    let refill = c.in_ok-reach.ensures.reaches.ok in
    let so_far = c.loop-b.invariant in
    let zeros = c.read_zeros-zeros.ensures in
    let block = c.read_block-read.ensures in
    let read = run_none h b _ _ _ _ _ _ c.if-zeros-gt0.false zeros.read (read_refilled h b c.args.room.now.window so_far.bytes _ so_far.read refill) in
    record {
      within = omega (arith, c.loop-b-test.true, c.blocks-blocks.ensures.value);
      look = λ is. c.has_whole_blocks-whole.ensures.whole (c.may_go_on-look.ensures is);
      bytes = so_far.bytes ++ refill.bytes;
      goes = Goes-read {w = c.read_block-read.new.window} (Goes-read {w = c.read_zeros-zeros.new.window} (Goes-next so_far.goes refill.goes) zeros.place) c.in-Some.ensures.place;
      read = read_more h b _ _ _ _ _ c.in-Some.ensures.some read;
      stays = Stays-next so_far.stays (record { rows = refl; longest = refl; held = block.room ∙ zeros.room ∙ refill.room; values = omega (arith, zeros.values, block.values) });
      ended = λ is. c.in_ok-reach.ensures.reaches.ended (sym (block.ended ∙ zeros.ended) ∙ is);
      source = Reads-more so_far.source c.reach.ensures.reaches.source.device;
    }

pub returns-clause-ok : goal.returns-clause-ok
returns-clause-ok g c =
    let h = c.args.part.now in
    let so_far = c.loop-b.invariant in
    let read = so_far.read in
    let all : c.loop-b.b ≡ blocks h.shape = omega (arith, c.loop-b-test.false, so_far.within, c.blocks-blocks.ensures.value) in
    record {
      bytes = so_far.bytes;
      goes = so_far.goes;
      codes = rw all at read.codes
          ∙ ap (λ (bs : List (List ℤ)). Ok (bs, left_of c.loop-b.room.window))
          (blocks_stored h.shape read.found (map g.T.Lane.value c.loop-b.room.stored.items) (read.count ∙ all) read.stores);
    }

pub returns-clause-all : goal.returns-clause-all
returns-clause-all g c =
    let ns = c.args.part.now.shape in
    let so_far = c.loop-b.invariant in
    let all : c.loop-b.b ≡ blocks ns = omega (arith, c.loop-b-test.false, so_far.within, c.blocks-blocks.ensures.value) in
    search (rules, stored_before, length-map, all_stored)

pub reach-requires-clause-room : goal.reach-requires-clause-room
reach-requires-clause-room g c = (still_restores c.requires.room c.loop-b.invariant.stays c.loop-b.invariant.ended).held

pub reach-requires-clause-ended : goal.reach-requires-clause-ended
reach-requires-clause-ended g c = c.loop-b.invariant.ended

pub returns-in_err-reach-clause-source : goal.returns-in_err-reach-clause-source
returns-in_err-reach-clause-source g c = search (rules, err_from_is_err_and)

pub returns-clause-source : goal.returns-clause-source
returns-clause-source g c = Reads-ok tt c.loop-b.invariant.source

pub read_block-read-requires-clause-size : goal.read_block-read-requires-clause-size
read_block-read-requires-clause-size g c = c.block_len-size.ensures.value ∙ ap (λ d. 4 ^ d) c.dims.ensures.value

pub read_block-read-requires-clause-block : goal.read_block-read-requires-clause-block
read_block-read-requires-clause-block g c = omega (arith, c.block_len-size.ensures.bound, c.loop-b.room.long, c.deref_mut-in-loop-b.ensures.len)

pub read_zeros-zeros-requires-clause-size : goal.read_zeros-zeros-requires-clause-size
read_zeros-zeros-requires-clause-size g c = c.block_len-size.ensures.value ∙ ap (λ d. 4 ^ d) c.dims.ensures.value

pub invariant_of-room-then-zeros-gt0 : goal.invariant_of-room-then-zeros-gt0
invariant_of-room-then-zeros-gt0 g c = record { long = c.loop-b.room.long; wide = c.loop-b.room.wide }

pub invariant_of-room-in-loop-b : goal.invariant_of-room-in-loop-b
invariant_of-room-in-loop-b g c = record { long = c.loop-b.room.long; wide = c.loop-b.room.wide }
