-- How a task stands with a session at a later call.
use Rattle.std.proofs.Common.{◌≡◌, ◌≤◌, ◌*◌, ℕ, List, Option, None, Some, length, get_or, refl, sym, ap, subst, ◌∙◌}
use Rattle.std.specs.Prelude.{◌<◌, ⊤, Contains, IfSome, IsSome, MatchOption}
use Rattle.std.proofs.lemmas.List.Elements.{Contains-get_or}
use Rattle.aggregator_session.specs.Runs.{SameSession}
use Rattle.aggregator_session.specs.Tasks.{MayAsk, Stands, StandsAgain, StandsFirst}
use Rattle.aggregator_session.specs.declared.session.Task.{Task}
use Rattle.coalition_map.specs.Coalitions.{PlanNumbers, leaf_members}
use Rattle.lms_bytes.specs.declared.ask.Ask.{Ask}
use Rattle.lms_bytes.specs.declared.ask.Second.{Second}
use Rattle.lms_bytes.specs.declared.params.Params.{Params}
use Rattle.lms_bytes.specs.declared.public_key.PublicKey.{PublicKey}
use Rattle.session_core.specs.Asks.{IsAskOf, ask_with}
use Rattle.session_core.specs.State.{SameAsk, State}
use Rattle.session_core.specs.Verdicts.{Turned, digest_of}

module _ (task : Task) (s t : State) (p q : Params) (m n : PlanNumbers) (size room : ℕ) (set : q ≡ p) (plan : n ≡ m) (wide : room ≡ size) where
  -- no reply changes it
  pub stands-as : SameAsk s t → Stands task s p m size → Stands task t q n room
  stands-as same st = record {
    of_key = same.key ∙ st.of_key;
    of_plan = same.plan ∙ st.of_plan;
    all = st.all ∙ ap (λ (x : PlanNumbers). leaf_members x s.leaf) (sym same.plan) ∙ ap (λ (x : ℕ). leaf_members t.plan x) (sym same.leaf);
    id = same.message ∙ st.id;
    limit = st.limit;
    c = subst (λ (o : Option (List ℕ)). IfSome o (λ c. length c ≡ task.desk.now.key.now.params.n)) (sym same.c) st.c;
    set = set ∙ st.set ∙ ap (λ (k : PublicKey). k.params) (sym same.key);
    plan = plan ∙ st.plan ∙ sym same.plan;
    room = subst (λ (k : PublicKey). k.params.p * k.params.n ≤ room) (sym same.key) (subst (λ (z : ℕ). s.key.params.p * s.key.params.n ≤ z) (sym wide) st.room);
  }

  pub stands-first : SameAsk s t → StandsFirst task s p m size → StandsFirst task t q n room
  stands-first same first = record { stands = stands-as same first.stands; round = same.c ∙ first.round }

pub round-turned : (s t : State) → Turned s t → IsSome t.c
round-turned s t turns = subst (λ (x : State). IsSome x.c) (sym turns.same) refl

module _ (task : Task) (s t : State) (p : Params) (m : PlanNumbers) (size : ℕ) (turns : Turned s t) where
  -- the session went to round two
  stands-turned : Stands task s p m size → Stands task t p m size
  stands-turned st = subst (λ (x : State). Stands task x p m size) (sym turns.same) (record {
    of_key = st.of_key;
    of_plan = st.of_plan;
    all = st.all;
    id = st.id;
    limit = st.limit;
    c = turns.c_length ∙ ap (λ (k : PublicKey). k.params.n) st.of_key;
    set = st.set;
    plan = st.plan;
    room = st.room;
  })

  pub stands-again : (digest : List ℕ) → digest ≡ digest_of t task.message.now → Stands task s p m size → StandsAgain task t p m size digest
  stands-again digest is st = record {
    stands = stands-turned st;
    round = round-turned s t turns;
    digest_is = is;
  }

pub same-asked : (s t : State) → SameAsk s t → SameSession s t
same-asked s t same = record { key = same.key; plan = same.plan; leaf = same.leaf; message = same.message }

-- a session that went to round two on the way
pub same-turned : (s k t u : State) → SameAsk s k → Turned k t → SameAsk t u → SameSession s u
same-turned s k t u before turns after = record {
  key = after.key ∙ (ap (λ (x : State). x.key) turns.same ∙ before.key);
  plan = after.plan ∙ (ap (λ (x : State). x.plan) turns.same ∙ before.plan);
  leaf = after.leaf ∙ (ap (λ (x : State). x.leaf) turns.same ∙ before.leaf);
  message = after.message ∙ (ap (λ (x : State). x.message) turns.same ∙ before.message);
}

-- the members of the leaf, whatever was kept since
pub member-of : (s t : State) (members : List ℕ) (i d : ℕ) → members ≡ leaf_members s.plan s.leaf → SameAsk s t → i < length members → Contains (leaf_members t.plan t.leaf) (get_or members i d)
member-of s t members i d all same lt =
    let is : members ≡ leaf_members t.plan t.leaf =
    all ∙ ap (λ (x : PlanNumbers). leaf_members x s.leaf) (sym same.plan) ∙ ap (λ (x : ℕ). leaf_members t.plan x) (sym same.leaf) in
    subst (λ (l : List ℕ). Contains l (get_or members i d)) is (Contains-get_or members i d lt)

second-fits : (n : ℕ) (c : Option (List ℕ)) (s : State) (tag digest : List ℕ) → IfSome c (λ c. length c ≡ n) → MatchOption (ask_with (record s { c = c }) tag digest).second ⊤ (λ (second : Second). length second.c ≡ n)
second-fits n None s tag digest fits = tt
second-fits n (Some c) s tag digest fits = fits

-- a task's session may send what it asks
pub may-ask : (task : Task) (s : State) (p : Params) (m : PlanNumbers) (size : ℕ) (digest : List ℕ) (ask : Ask) → Stands task s p m size → IsAskOf s digest ask
    → MayAsk task.desk.now.key.now.params s ask task.message.now size
may-ask task s p m size digest ask st a =
    let params = task.desk.now.key.now.params in
    record {
      set = ap (λ (k : PublicKey). k.params) st.of_key;
      room = subst (λ (k : PublicKey). k.params.p * k.params.n ≤ size) st.of_key st.room;
      id = ap (λ (x : Ask). x.message) a.same ∙ st.id;
      c = subst (λ (x : Ask). MatchOption x.second ⊤ (λ (second : Second). length second.c ≡ params.n)) (sym a.same) (second-fits params.n s.c s a.tag digest st.c);
      limit = st.limit;
    }
