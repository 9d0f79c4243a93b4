-- The names that the walks through the bodies cite, passed on.
pub use Rattle.std.proofs.Common.{◌≡◌, ℕ, ◌+◌, ◌-◌, ◌^◌, ◌<◌, ◌≤◌, List, [], ◌∷◌, ◌++◌, T, sym, refl, ap, ◌∙◌, subst, arith}
pub use mir.MapTy.{inst_fn}
pub use mir.Raw.{raw as bare}
pub use mir.Syntax.{Fn, a_type, dcons, dnil, named}
pub use mir.Val.{Val, vunit, vptr, vstruct, vcons, vnil, of_list, has_ty, WT}
pub use base.Fml.{Lft, Fml, ftrue, fsep, feq, flft, fhide}
pub use base.Fraction.{full_share}
pub use base.Logic.{SProp, ent, emp, id⊢, fst∗, never}
pub use contract.BorrowLft.{◌⊑◌}
pub use contract.Monad.{fact, fact_i}
pub use contract.Running.{tables}
pub use prog.Wp.{WpFn}
pub use types.ByLocal.{alloc_all, pass_all, free_all, look_at, get, get_in, through, sets, sets_last, lands_as, lands_last, is, env}
pub use types.Kit.{Item, ‵, raw, ◌⊛◌, some, given, later, at_ret, ◌$◌, ◌∵◌, !, qed, by, move, keep, drop, split, split3, join, fsplit, fsplit3, fjoin}
pub use types.Kit.{fjoin3, fpick, fpack, pick, learn, use0, use1, use2, use3, await, rewrite, feq_i, feq_l, suffices}
pub use types.Logic.{sem}
pub use types.Part.{agg, sub, whole, look_in}
pub use types.Run.{stop, fld, hop, load, addr, unit_lit, of_opd, no_more, and_then, first, blocks, exec, returns, enter}
pub use denote.Builtin.{RefOf, RawPtr}
pub use denote.Exit.{yes, no}
pub use denote.Laws.{Is, shows}
pub use denote.Memory.{cell_at, hidden_shr}
pub use denote.Opens.{unhide, hide}
pub use denote.Param.{param, bounded, layout}
pub use denote.Param.Laws.{param_laws}
pub use denote.RattleType.{RattleType, Valss, owns}
pub use denote.RawPtr.{Ptr, InBlock, block_ptr, null_ptr, ptr_val, block_of, count_of, at_block, lies_at, in_a_block}
pub use denote.Ref.{mut_vals, mut_Tells, shr_vals, shr_Tells}
pub use denote.SharingLaws.{contraction}
pub use denote.Signature.{types_at, plain}
pub use denote.Steps.{nothing, only, peeks, heard, opens, closes, looks, shuts}
pub use denote.Struct.Lending.{lent_at, lent_at_shr_laws, lent_out, in_block_says, Lends-lies}
pub use denote.Struct.Tuple.{Tuple}
pub use denote.Triple.Call.{calls_at, calls_at_last}
pub use denote.Triple.Clauses.{Lasts, lasts}
pub use denote.Triple.Spec.{triple_of}
pub use denote.Triple.Walked.{Stays, stay_dropped, stay_ref, walk_of, Goes-dropped, Goes-ref}
pub use Rattle.core.proofs.atomic.Steps.{tail}
pub use Rattle.atomic_table.proofs.Calls.{fm}
pub use Rattle.atomic_table.proofs.Walks.{proved, proved_at, leaves}
