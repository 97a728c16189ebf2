-- The names of the logic that the walks of the unsafe functions use. Assumes `Logic`.
pub use mathlib.Core.Path.{◌≡◌, refl, sym, subst, ◌∙◌, ap}
pub use Prim.Native.Nat.{ℕ, ◌+◌, ◌*◌, ◌<◌, ◌^◌}
pub use native.Mathlib.Omega.{arith}
pub use mathlib.Core.List.{List, [], ◌∷◌, ◌++◌, map}
pub use seplogic.Ra.Ura.{Ura}
pub use base.Fraction.{full_share}
pub use mir.Syntax.{Fn, named, w64, ty_array}
pub use mir.MapTy.{inst_fn}
pub use mir.Val.{Val, vptr, vint, vunit}
pub use base.Logic.{SProp, ent, sep, never, id⊢}
pub use base.Fml.{Lft, GName, Share, Fml, ftrue, fsep, fat, flft, fobs, fbor, Incl-trans}
pub use prog.Wp.{Env, Calls, Loops, WpFn, Tables}
pub use types.Logic.{Logic, sem}
pub use contract.Monad.{fact, Fun}
pub use contract.Running.{tables}
pub use sound.WpLaws.{WpFn-mono, FmC, fm_of}
pub use types.Kit.{Item, ⋆, ‵, raw, ◌⊛◌, some, later, await, pick, at_ret, ◌$◌, ◌∵◌, !, qed, by, move, keep, use1, use2, split, join, group, rewrite, fsplit, fsplit3, fjoin, fjoin3, fpack, feq_l, suffices, frame, done, flt_l, flt_i, feq_i}
pub use types.Part.{whole, sub, agg}
pub use types.Run.{stop, fld, of_opd, first, blocks, exec, returns, enter, bin, size_lit, unit_lit, and_then, no_more, size_word, align_word}
pub use types.ByLocal.{alloc_all, pass_all, free_all, look_at, get, get_in, through, sets, sets_last, env, take_at, give_at, is}
pub use types.SemTy.{Body as Borrowed}
pub use denote.Exit.{no, yes}
pub use denote.RattleType.{owns, RattleType}
pub use denote.Memory.{mem, cell_at, hidden_shr}
pub use denote.Param.{layout}
pub use denote.RawPtr.{Ptr, block_ptr, in_a_block}
pub use denote.Ref.{MutBor, MutRef, Bor, ShrRef}
pub use denote.Builtin.{RefMutOf, usize, RefOf}
pub use denote.Signature.{plain, mut_ref_to}
pub use denote.Steps.{nothing, opens}
pub use denote.Triple.Carry.{spared}
pub use denote.Triple.Clauses.{Clauses, Ended, closing}
pub use denote.Triple.Entry.{on_entry}
pub use denote.Triple.Spec.{triple_of}
pub use denote.Triple.Table.{entered, run_framed}
pub use denote.Triple.Walked.{says, needs, Stays, stay_dropped, walk_of, ends_at, Goes-dropped, Goes-spent_ref, walk_Meets}
pub use Rattle.std_alloc.proofs.VecSteps.Shapes.{after}
pub use Rattle.std_alloc.proofs.RcSteps.{word, word-Good, Good}
pub use lib.ListN.{length, set, get_or, length-set, take, length-take, length-drop, drop as drop_l}
pub use Rattle.std.specs.Prelude.{Some, None}
pub use Rattle.core.proofs.mem.Param.{El, R, args, el_x, elτ}
pub use Rattle.core.proofs.ptr.Rows.{times_below, one_below}
pub use denote.Follow.{follows}
pub use Rattle.std_alloc.proofs.RawLayout.{as_written}
pub use Rattle.std.proofs.lemmas.List.{length-map}
pub use Rattle.core.proofs.slots.Leases.{uncapped, block_ty, block_size, block_align, P}
pub use denote.Slice.{slice_val}
pub use Rattle.core.proofs.alloc.Calls.{Al, second}
pub use prog.Memory.{Memory, align, capped}
pub use prog.Capped.{capped_fits}
pub use prog.Routine.{Routine}
pub use contract.BorrowLft.{◌⊑◌}
pub use denote.Triple.Statement.{Triple}
