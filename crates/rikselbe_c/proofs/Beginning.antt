-- A walk for both kinds of states: the state that a function makes is written into its room.
use Rattle.std.proofs.Common.{[], ◌∷◌, ◌++◌, refl}
use Rattle.std.proofs.raw_atomic.Walks.{proved}
use base.Fraction.{full_share}
use base.Logic.{id⊢, ex_e, snd∗, emp}
use base.Fml.{ftrue, froom, flft, fsep}
use mir.Syntax.{Callee, Fn, copy, place, deref, call, seq, assign, return, rv_opd, opd_unit, local, value_local, named, ty_unit, ty_ptr}
use mir.Val.{vunit}
use prog.Model.{Model}
use prog.Wp.{Closed, WpFn}
use contract.Monad.{fact}
use contract.Running.{Running, tables}
use seplogic.Ra.Ura.{Ura}
use types.Logic.{Logic, sem}
use types.Kit.{‵, raw, ◌⊛◌, some, later, prop, ◌$◌, ◌∵◌, !, qed, done, move, drop, use1, use2, split, join, fjoin, fpack, feq_i, pick, await, regoal, suffices, group}
use types.Run.{enter, of_opd, unit_lit, stop, no_more, and_then, assigns, init, returns}
use types.ByLocal.{alloc_all, pass_all, free_all, look_at, get, through, sets, lands_as}
use denote.Exit.{yes}
use denote.Builtin.{u8, unit, SliceRefOf}
use denote.Laws.{Is, shows}
use denote.Memory.{lone}
use denote.Param.{layout}
use denote.RattleType.{RattleType}
use denote.RawPtr.{Ptr, RawPtr, block_ptr, lies_at, room_at, in_a_block, rawptr_vals, rawptr_Tells}
use denote.Signature.{plain}
use denote.Slice.{ShrSlice, shr_slice_vals, shr_slice_Tells}
use denote.Steps.{nothing, heard, peeks}
use denote.Triple.Call.{calls_at}
use denote.Triple.Clauses.{Clauses, Ended, closing, ensured, lasts}
use denote.Triple.Spec.{Meets, triple_of}
use denote.Triple.Walked.{Stays, walk_of, stay_dropped, Goes-dropped, ends_at}
use denote.Triple.Table.{framed}
use borrow.Table.OneValue.{part_in}
use Rattle.rikselbe_c.proofs.Placed.{Kind, LiesAt, Says, State, slice_of, typed}

-- the export's parameters: the room, the key and the signature
abbrev pub ended : Ended
ended = record {
  signature = record { lifetimes = 2; outlives = []; params = plain (λ _. RawPtr) ∷ SliceRefOf (0 ∷ []) tt (plain (λ _. u8)) (λ κs. tt) ∷ SliceRefOf (1 ∷ []) tt (plain (λ _. u8)) (λ κs. tt) ∷ []; result = plain (λ _. unit) };
  kept = (yes, (yes, (yes, tt)));
}

abbrev stayed : Stays ended.signature.params ended.kept
stayed = (stay_dropped _ yes, (stay_dropped _ yes, (stay_dropped _ yes, tt)))

module _ (K : Kind) where
  abbrev R : RattleType
  R = K.row

  -- the code, when this function makes the state
  abbrev pub function : Callee → Fn
  function made = record {
    lifetimes = 2;
    outlives = [];
    ty_params = [];
    givens = 0;
    params = 3;
    locals = local ty_unit value_local ∷ local ty_ptr value_local ∷ local (slice_of 0) value_local ∷ local (slice_of 1) value_local ∷ local (layout R) value_local ∷ [];
    body = seq (call made (copy (place 2 []) ∷ copy (place 3 []) ∷ []) (place 4 []))
        (seq (assign (place 1 (deref (layout R) ∷ [])) (rv_opd (copy (place 4 [])))) (seq (assign (place 0 []) (rv_opd opd_unit)) return));
  }

  -- the function that makes the state
  abbrev pub made : Ended
  made = record {
    signature = record { lifetimes = 2; outlives = []; params = SliceRefOf (0 ∷ []) tt (plain (λ _. u8)) (λ κs. tt) ∷ SliceRefOf (1 ∷ []) tt (plain (λ _. u8)) (λ κs. tt) ∷ []; result = plain (λ _. R) };
    kept = (yes, (yes, tt));
  }

  module _ {M : Type 1} {𝓤 : Ura M} (𝓛 : Logic 𝓤) where
    -- the export's clauses, and those of the function that makes the state
    abbrev pub clauses : Clauses 𝓤 ended
    clauses κs a = record {
      ghost = Unit {0};
      requires = λ _. sem 𝓛 (room_at R a.0);
      ensures = λ _ r e. sem 𝓛 (LiesAt K a.0 (λ state. K.Has state a.1.0.now a.1.1.0.now []));
    }

    abbrev pub makes : Clauses 𝓤 made
    makes κs a = record { ghost = Unit {0}; requires = λ _. emp 𝓤; ensures = λ _ r e. fact 𝓤 (K.Has r a.0.now a.1.0.now []) }

    module _ (𝓜 : Model 𝓤 𝓛.H) (𝓡 : Running 𝓤 𝓛.H 𝓜) (name callee : Callee) where
      pub begins : Closed 𝓤 𝓛.H (tables 𝓤 𝓛.H 𝓜 𝓡 𝓡.env).C (tables 𝓤 𝓛.H 𝓜 𝓡 𝓡.env).Λ name (function callee)
          → Meets 𝓛 made.signature ((tables 𝓤 𝓛.H 𝓜 𝓡 𝓡.env).C callee) (closing 𝓛 made makes)
          → Meets 𝓛 ended.signature ((tables 𝓤 𝓛.H 𝓜 𝓡 𝓡.env).C name) (closing 𝓛 ended clauses)
      begins closed met =
          let W = walk_of 𝓛 ended stayed clauses in let 𝓣 = tables 𝓤 𝓛.H 𝓜 𝓡 𝓡.env in
          proved 𝓛 ended stayed clauses 𝓜 𝓡 (
            Goes-dropped 𝓛 2 (plain (λ _. RawPtr)) yes (λ κs x w. refl),
            (
              Goes-dropped 𝓛 2 (SliceRefOf (0 ∷ []) tt (plain (λ _. u8)) (λ κs. tt)) yes (λ κs x w. refl),
              (Goes-dropped 𝓛 2 (SliceRefOf (1 ∷ []) tt (plain (λ _. u8)) (λ κs. tt)) yes (λ κs x w. refl), tt),
            ),
          )
          name (function callee) closed
          (λ κs. (rawptr_vals, (shr_slice_vals, (shr_slice_vals, tt))))
          (λ κs. (rawptr_Tells, (shr_slice_Tells (named 0) κs.0 u8, (shr_slice_Tells (named 1) κs.1.0 u8, tt)))) (λ κs qs bounds a none are.
          let κ = κs.0 in let κ' = κs.1.0 in let key = a.1.0 in let signature = a.1.1.0 in let vs = shr_slice_vals key in let ws = shr_slice_vals signature in
          let y : Ptr → W.Ghost = λ p. ((κs, qs, bounds, (p, (key, (signature, tt))), (rawptr_vals p, (vs, (ws, tt)))), tt) in
          let G = triple_of 𝓛 made.signature (closing 𝓛 made makes) in
          let z : G.Ghost = ((κs, qs, tt, (key, (signature, tt)), (vs, (ws, tt))), tt) in
          let Has : State K → Type 0 = λ r. K.Has r key.now signature.now [] in
          let Toks = ‵ (flft κ qs.0) ⊛ ‵ (flft κ' qs.1.0) ⊛ ‵ ftrue in
          qed 𝓛 ((Toks ⊛ ‵ (RawPtr.own_val a.0 (rawptr_vals a.0)) ⊛ ‵ ((ShrSlice (named 0) κ u8).own_val key vs) ⊛ ‵ ((ShrSlice (named 1) κ' u8).own_val signature ws) ⊛ ‵ ftrue)
          ∷ ‵ (room_at R a.0) ∷ []) ∵
          split ! $ move ! (1 ∷ []) $ split ! $ drop ! $ move ! (2 ∷ []) $
          in_a_block ! a.0 (λ p. room_at R p) (id⊢ 𝓤 _) (λ b o e.
          regoal ! (λ p. prop (WpFn 𝓤 𝓛.H 𝓣.C 𝓣.Λ (function callee) (rawptr_vals p ++ vs ++ ws) (W.post (y p)))) e refl $
          use1 𝓛 (‵ (froom (lone R.mir) b o)) (id⊢ 𝓤 _) $
          enter ! _ _ _ _ _ $ alloc_all ! (λ l. pass_all ! refl ((tt, tt), ((tt, (tt, (record { fits = are.1.0.0.1.0 }, tt))), ((tt, (tt, (record { fits = are.1.1.0.0.1.0 }, tt))), tt))) $
          -- [room; what the parameters own; the tokens of their lifetimes]
          move ! (2 ∷ 1 ∷ []) $ join ! $ nothing ! $ move ! (1 ∷ 0 ∷ []) $
          use2 𝓛 (raw (G.pre z)) (id⊢ 𝓤 _) $
          calls_at ! (framed 𝓤 𝓛.H 𝓜 (tables 𝓤 𝓛.H 𝓜 𝓡 𝓡.env)) G met z
          (and_then ! (get ! refl) (and_then ! (get ! refl) (no_more !))) (λ u.
          use1 𝓛 (later (some (λ (r : State K). (Toks ⊛ ‵ (R.own_val r (u ∷ []))) ⊛ raw (ensured 𝓛 made makes κs (key, (signature, tt)) tt r)))) (id⊢ 𝓤 _) $
          await ! tt $ pick ! (λ r. split ! $ move ! (1 ∷ []) $
          use1 𝓛 (raw (fact 𝓤 (Has r))) (ex_e 𝓤 _ (λ ws'. snd∗ 𝓤 (sem 𝓛 (lasts made κs (key, (signature, tt)) ws')) (fact 𝓤 (Has r)))) $
          heard ! (Has r) (λ has. split ! $ move ! (1 ∷ []) $
          peeks ! R (Is R) (shows 𝓛 R) r (u ∷ []) (λ after. let t = typed K 𝓛 r u after in
          lands_as ! refl refl t $
          -- [what the state owns; the tokens; room]
          assigns ! (of_opd ! (get ! refl)) (through ! refl (stop !)) (init ! 2 refl t) $
          sets ! (of_opd ! (unit_lit !)) refl (tt, tt) $
          returns ! (look_at ! 0 refl) $ free_all ! refl $
          suffices ! _ (ends_at 𝓛 ended stayed clauses (y (block_ptr b o)) vunit tt (tt, (tt, (tt, tt))) (tt, (tt, (tt, tt)))) $
          move ! (2 ∷ 0 ∷ []) $ use2 𝓛 (‵ (lies_at R full_share (block_ptr b o) r)) (part_in 𝓛 R K.laws.one full_share r b o u) $
          nothing ! $ fpack ! (Has r) (λ _. ftrue) has $ move ! (1 ∷ 0 ∷ []) $ fjoin ! $
          fpack ! (State K) (λ x. fsep (lies_at R full_share (block_ptr b o) x) (Says K Has x)) r $
          feq_i ! _ (vunit ∷ []) _ refl $ nothing ! $ nothing ! $ join ! $ nothing ! $ join ! $ nothing ! $ join ! $ move ! (3 ∷ []) $ group ! 3 $ done !)))))))
