-- A walk: the state is read out of its memory and goes through `finished`. The memory it lay in is then room.
use Rattle.std.proofs.Common.{ℕ, List, [], ◌∷◌, ◌++◌, refl, w32}
use Rattle.std.proofs.raw_atomic.Walks.{proved}
use base.Fraction.{full_share}
use base.Logic.{id⊢, emp, ex_e, snd∗}
use base.Fml.{ftrue, fat, flft, fsep, fex}
use mir.Syntax.{named}
use mir.Val.{Val}
use prog.Wp.{WpFn}
use contract.Monad.{fact, fact_i}
use contract.Running.{tables}
use types.Logic.{sem}
use types.Kit.{‵, raw, ◌⊛◌, some, later, prop, ◌$◌, ◌∵◌, !, qed, done, move, drop, frame, use0, use1, use2, split, join, fsplit, fpick, pick, await, regoal, suffices, group}
use types.Run.{enter, of_opd, load, look, stop, no_more, and_then, forget, returns}
use types.ByLocal.{alloc_all, pass_all, free_all, look_at, get, through, sets, lands_as}
use denote.Exit.{yes}
use denote.Builtin.{u8, u32, SliceRefOf}
use denote.Plain.{uint_Lawful}
use denote.Laws.{Is, shows}
use denote.Memory.{lone}
use denote.RawPtr.{Ptr, RawPtr, block_ptr, lies_at, in_a_block, rawptr_vals, rawptr_Tells}
use denote.Signature.{plain}
use denote.Slice.{ShrSlice, shr_slice_vals, shr_slice_Tells}
use denote.Steps.{nothing, heard, peeks}
use denote.Triple.Call.{calls_at}
use denote.Triple.Clauses.{ensured, lasts}
use denote.Triple.Spec.{triple_of}
use denote.Triple.Walked.{Stays, walk_of, says, stay_dropped, Goes-dropped, ends_at}
use denote.Triple.Table.{framed}
use borrow.Table.OneValue.{part_out}
use Rattle.rikselbe_c.specs.Answers.{IsHssVerified}
use Rattle.rikselbe_c.specs.HssStream.{HasTakenPart}
use Rattle.rikselbe_c.specs.declared.hss_stream.HssStream.{HssStream}
use Rattle.rikselbe_c.specs.contracts.hss_stream.HssStream.{the_row as R}
use Rattle.rikselbe_c.proofs.hss_stream.HssStream.TheLaws.{the_row_laws}
use Rattle.rikselbe_c.specs.contracts.streaming.rikselbe_hss_finish as f
use Rattle.rikselbe_c.proofs.streaming.rikselbe_hss_finish.Statement.{statement}
use Rattle.rikselbe_c.proofs.streaming.rikselbe_hss_finish.Code as code
use Rattle.rikselbe_c.specs.contracts.hss_stream.finished as g
use Rattle.rikselbe_c.proofs.hss_stream.finished.Met.{met}

abbrev stayed : Stays f.ended.signature.params f.ended.kept
stayed = (stay_dropped _ yes, (stay_dropped _ yes, tt))

pub rikselbe_hss_finish_spec : {M : Type 1} → statement M
rikselbe_hss_finish_spec 𝓤 𝓛 𝓜 𝓡 wired =
    let c = f.clauses 𝓛 𝓜.mem 𝓡.returns in let W = walk_of 𝓛 f.ended stayed c in let 𝓣 = tables 𝓤 𝓛.H 𝓜 𝓡 𝓡.env in
    proved 𝓛 f.ended stayed c 𝓜 𝓡
    (Goes-dropped 𝓛 1 (plain (λ _. RawPtr)) yes (λ κs x w. refl), (Goes-dropped 𝓛 1 (SliceRefOf (0 ∷ []) tt (plain (λ _. u8)) (λ κs. tt)) yes (λ κs x w. refl), tt))
    f.Key.name code.function (code.unfolded 𝓤 𝓛.H 𝓜 𝓡 wired)
    (λ κs. (rawptr_vals, (shr_slice_vals, tt))) (λ κs. (rawptr_Tells, (shr_slice_Tells (named 0) κs.0 u8, tt))) (λ κs qs bounds a had are.
    let κ = κs.0 in let signature = a.1.0 in let vs = shr_slice_vals signature in
    let y : Ptr → W.Ghost = λ p. ((κs, qs, bounds, (p, (signature, tt)), (rawptr_vals p, (vs, tt))), had) in
    let G = triple_of 𝓛 g.signature (g.spec 𝓛 𝓜.mem 𝓡.returns) in
    let z : HssStream → Val → G.Ghost = λ s v. ((κs, qs, tt, (s, (signature, tt)), (v ∷ [], (vs, tt))), tt) in
    let Has : HssStream → Type 0 = λ s. HasTakenPart s had.key signature.now had.message in
    let Begun : HssStream → Type 0 = λ s. (key : List ℕ) × (message : List ℕ) × HasTakenPart s key signature.now message in
    let Says : HssStream → ℕ → Type 0 = λ s r. (key message : List ℕ) → HasTakenPart s key signature.now message → IsHssVerified key message signature.now r in
    let Toks = ‵ (flft κ qs.0) ⊛ ‵ ftrue in
    qed 𝓛 ((Toks ⊛ ‵ (RawPtr.own_val a.0 (rawptr_vals a.0)) ⊛ ‵ ((ShrSlice (named 0) κ u8).own_val signature vs) ⊛ ‵ ftrue)
    ∷ ‵ (fex HssStream (λ s. fsep (lies_at R full_share a.0 s) (fex (Has s) (λ _. ftrue)))) ∷ []) ∵
    split ! $ move ! (1 ∷ []) $ split ! $ drop ! $ move ! (2 ∷ []) $
    fpick ! (λ s. fsplit ! $ move ! (1 ∷ []) $ fpick ! (λ taken. drop ! $
    in_a_block ! a.0 (λ p. lies_at R full_share p s) (id⊢ 𝓤 _) (λ b o e.
    regoal ! (λ p. prop (WpFn 𝓤 𝓛.H 𝓣.C 𝓣.Λ code.function (rawptr_vals p ++ vs) (W.post (y p)))) e refl $
    use1 𝓛 (some (λ (v : Val). ‵ (fat full_share (lone R.mir) b o v) ⊛ ‵ (R.own_val s (v ∷ [])))) (part_out 𝓛 R refl full_share s b o) $ pick ! (λ v. split ! $ move ! (1 ∷ []) $
    peeks ! R (Is R) (shows 𝓛 R) s (v ∷ []) (λ is.
    let t = (((the_row_laws).lawful 𝓛).typed s (v ∷ []) is).0 in
    enter ! _ _ _ _ _ $ alloc_all ! (λ l. pass_all ! refl ((tt, tt), ((tt, (tt, (record { fits = are.1.0.0.1.0 }, tt))), tt)) $
    -- [what the state owns; its cell; what the parameters own; the token of its lifetime]
    sets ! (of_opd ! (load ! (through ! refl (stop !)) (look ! 1 refl))) refl t $
    move ! (0 ∷ 2 ∷ []) $ join ! $ move ! (2 ∷ 0 ∷ []) $ join ! $
    use0 𝓛 (raw (fact 𝓤 (Begun s))) (fact_i 𝓤 (Begun s) (emp 𝓤) (had.key, had.message, taken)) $ move ! (1 ∷ 0 ∷ []) $
    use2 𝓛 (raw (G.pre (z s v))) (id⊢ 𝓤 _) $
    calls_at ! (framed 𝓤 𝓛.H 𝓜 (tables 𝓤 𝓛.H 𝓜 𝓡 𝓡.env)) G (met 𝓤 𝓛 𝓜 𝓡 (code.calls-rikselbe_c::hss_stream::finished 𝓡.env wired)) (z s v)
    (and_then ! (get ! refl) (and_then ! (get ! refl) (no_more !))) (λ u.
    use1 𝓛 (later (some (λ (r : ℕ). (Toks ⊛ ‵ (u32.own_val r (u ∷ []))) ⊛ raw (ensured 𝓛 g.ended (g.clauses 𝓛 𝓜.mem 𝓡.returns) κs (s, (signature, tt)) tt r)))) (id⊢ 𝓤 _) $
    await ! tt $ pick ! (λ r. split ! $ move ! (1 ∷ []) $
    use1 𝓛 (raw (fact 𝓤 (Says s r))) (ex_e 𝓤 _ (λ ends. snd∗ 𝓤 (sem 𝓛 (lasts g.ended κs (s, (signature, tt)) ends)) (fact 𝓤 (Says s r)))) $
    heard ! (Says s r) (λ verified. split ! $ move ! (1 ∷ []) $
    peeks ! u32 (Is u32) (shows 𝓛 u32) r (u ∷ []) (λ after.
    lands_as ! refl refl ((uint_Lawful 𝓛 w32).typed r _ after).0 $
    -- [the result; the token; the cell]
    returns ! (look_at ! 0 refl) $ free_all ! refl $
    suffices ! _ (ends_at 𝓛 f.ended stayed c (y (block_ptr b o)) u r (tt, (tt, tt)) (tt, (tt, tt))) $
    forget ! 2 refl $ nothing ! $ nothing ! $ join ! $ nothing ! $ join ! $ move ! (2 ∷ 0 ∷ 1 ∷ []) $ group ! 3 $ frame ! $ says ! (verified had.key had.message taken) $ done !)))))))))))
