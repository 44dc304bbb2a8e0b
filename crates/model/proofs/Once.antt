-- A call found at one world has one end.
use Rattle.std.proofs.Common.{◌≡◌, ℕ, List, length, Some, None, Option, sym, refl, ◌∙◌, subst, inl, inr, arith}
use Rattle.kinds.specs.declared.record.Record.{Record}
use Rattle.maps.specs.Maps.{Contents, contents}
use Rattle.model.specs.Claims.{OneEnd, LentCells}
use Rattle.model.specs.Faults.{Fault}
use Rattle.model.specs.Refusals.{start_refusal, begin_refusal, other_kinds, enter_refusal, list_refusal, seal_refusal, write_refusal}
use Rattle.model.specs.Setups.{Setup, SetupLaws}
use Rattle.model.specs.Steps.{Left, Leaves, Refuses, Unless, begun, not_begun, Reads, Over, entered, listed, Flushed, Writes, StepAt, Step}
use Rattle.model.specs.Worlds.{Batch, Phase, World, Call, Lent, Outcome, Event}
use Rattle.model.proofs.Layouts.{laid_length, laid_for_once}
use Rattle.model.proofs.Refusals.{start_taken, begin_taken}

-- behind an accepted seal the store keeps what it shows
module _ {K Row V : Type 0} (x : Setup K Row V) (w : World Row V) (e : Event Row V) (a : e.outcome ≡ Outcome.accepted) where
  refused_not : {A : Type 0} (f : Fault) → Refuses w e f → A
  refused_not f h = let n = h.outcome in let z : ◌≡◌ {A = ℕ} 0 1 = cc in absurd (omega arith)

  write_flushed : (r : Option Fault) (A : Type 0) → Unless r (Refuses w e) (A × Flushed e) → Flushed e
  write_flushed (Some f) A h = refused_not f h
  write_flushed None A h = h.1

  over_flushed : (b : Batch) → Over x b w e (λ m. Writes x w e (contents b.seed m)) → Flushed e
  over_flushed b (inl (m, h, p)) = write_flushed (write_refusal (x.codec.image_length (contents b.seed m)) w.store.count w.store.protected) _ p
  over_flushed b (inr (none, h)) = refused_not _ h

  seals_flushed : (b : Batch) (r : Option Fault) → Unless r (Refuses w e) (Over x b w e (λ m. Writes x w e (contents b.seed m))) → Flushed e
  seals_flushed b (Some f) h = refused_not f h
  seals_flushed b None h = over_flushed b h

  flushed_at : (p : Phase) (c : Call Row V) → c ≡ Call.seal → StepAt x w e p c → Flushed e
  flushed_at Phase.closed c q h = absurd (subst (StepAt x w e Phase.closed) q h)
  flushed_at (Phase.opened b) c q h =
      seals_flushed b (seal_refusal (other_kinds x.kinds b) (length w.cells) w.store.count (length e.lent.work)) (subst (StepAt x w e (Phase.opened b)) q h)

  pub seal_flushed : e.call ≡ Call.seal → Step x w e → Flushed e
  seal_flushed q h = flushed_at w.phase e.call q h.does

-- a batch opens over 1024 cells only
module _ {K Row V : Type 0} (x : Setup K Row V) (w : World Row V) (e : Event Row V) (a : e.outcome ≡ Outcome.accepted) where
  taken_room : (r : Option Fault) (A : Type 0) → (r ≡ None → length w.cells ≡ 1024) → Unless r (Refuses w e) A → length w.cells ≡ 1024
  taken_room (Some f) A k h = refused_not x w e a f h
  taken_room None A k h = k refl

  closed_room : (c : Call Row V) → StepAt x w e Phase.closed c → length w.cells ≡ 1024
  closed_room (Call.start s) h = taken_room (start_refusal w.store.count (length w.cells)) _ (λ q. (start_taken w.store.count (length w.cells) q).1) h.1
  closed_room Call.begin h =
      let work = length e.lent.work in
      taken_room (begin_refusal w.store.count (length w.cells) work) _ (λ q. (begin_taken w.store.count (length w.cells) work q).1) h
  closed_room (Call.enter sheet) h = absurd h
  closed_room Call.list h = absurd h
  closed_room Call.seal h = absurd h
  closed_room Call.abandon h = absurd h

  opens_room : w.phase ≡ Phase.closed → Step x w e → length w.cells ≡ 1024
  opens_room p h = closed_room e.call (subst (λ (q : Phase). StepAt x w e q e.call) p h.does)

pub lent_cells : (K Row V : Type 0) (n : ℕ) → n ≡ 1024 → LentCells K Row V n
lent_cells K Row V n e = record {
  opens = λ x w f p h a. opens_room x w f a p h ∙ sym e;
  takes = λ x l h w. laid_length x l.key h w ∙ sym e;
}

-- what two events have in common, but for what the store keeps
pub record Ends {Row V : Type 0} (e f : Event Row V) : Type 0 where
  pub outcome : e.outcome ≡ f.outcome
  pub phase : e.after.phase ≡ f.after.phase
  pub count : e.after.store.count ≡ f.after.store.count
  pub protected : e.after.store.protected ≡ f.after.store.protected
  pub shown : e.after.store.shown ≡ f.after.store.shown
  pub cells : e.after.cells ≡ f.after.cells
  pub back : e.back ≡ f.back

module _ {K Row V : Type 0} (x : Setup K Row V) (l : SetupLaws x) (w : World Row V) (e : Event Row V) (outcome : Outcome Row V) (after : World Row V) (back : Lent Row V) where
  -- the same call, with another end
  abbrev other : Event Row V
  other = record { call = e.call; lent = e.lent; outcome = outcome; after = after; back = back }

  same : {o : Left Row V} → Leaves w e o → Leaves w other o → Ends e other
  same h g = record {
    outcome = h.outcome ∙ sym g.outcome;
    phase = h.phase ∙ sym g.phase;
    count = h.count ∙ sym g.count;
    protected = h.protected ∙ sym g.protected;
    shown = h.shown ∙ sym g.shown;
    cells = h.cells ∙ sym g.cells;
    back = h.lent ∙ sym g.lent;
  }

  both : (r : Option Fault) (A B : Type 0) → (A → B → Ends e other) → Unless r (Refuses w e) A → Unless r (Refuses w other) B → Ends e other
  both (Some f) A B k h g = same h g
  both None A B k h g = k h g

  over : (b : Batch) (P Q : List (Record K V) → Type 0) → ((m : List (Record K V)) → P m → Q m → Ends e other) → Over x b w e P → Over x b w other Q → Ends e other
  over b P Q k (inl (m, h, p)) (inl (n, g, q)) = k m p (subst Q (laid_for_once x.kinds l.kinds.key b n m w.cells g h) q)
  over b P Q k (inl (m, h, p)) (inr (none, q)) = absurd (none m h)
  over b P Q k (inr (none, p)) (inl (n, g, q)) = absurd (none n g)
  over b P Q k (inr (none, p)) (inr (none', q)) = same p q

  reads : Reads x w e → Reads x w other → Ends e other
  reads (inl (h, s, p)) (inl (g, t, q)) =
      let one : g ≡ h = l.written.apart w.store.count g h t.lawful s.lawful t.fits s.fits (sym t.image ∙ s.image) in
      same p (subst (λ (u : Contents K V). Leaves w other (begun x w e.lent u)) one q)
  reads (inl (h, s, p)) (inr (f, t, q)) = let y = l.written.sound w.store.count w.store.shown h s in let c : ◌≡◌ {A = ℕ} 0 1 = cc in absurd (omega arith)
  reads (inr (f, s, p)) (inl (h, t, q)) = let y = l.written.sound w.store.count w.store.shown h t in let c : ◌≡◌ {A = ℕ} 0 1 = cc in absurd (omega arith)
  reads (inr (f, s, p)) (inr (g, t, q)) =
      let one : g ≡ f = cc in
      same p (subst (λ (u : Fault). Leaves w other (not_begun w e.lent u)) one q)

  once_at : (p : Phase) (c : Call Row V) → StepAt x w e p c → StepAt x w other p c → Ends e other
  once_at Phase.closed (Call.start s) h g = both (start_refusal w.store.count (length w.cells)) _ _ same h.1 g.1
  once_at Phase.closed Call.begin h g = both (begin_refusal w.store.count (length w.cells) (length e.lent.work)) _ _ reads h g
  once_at Phase.closed (Call.enter sheet) h g = absurd h
  once_at Phase.closed Call.list h g = absurd h
  once_at Phase.closed Call.seal h g = absurd h
  once_at Phase.closed Call.abandon h g = absurd h
  once_at (Phase.opened b) (Call.start s) h g = absurd h
  once_at (Phase.opened b) Call.begin h g = absurd h
  once_at (Phase.opened b) (Call.enter sheet) h g =
      both (enter_refusal x.kinds (other_kinds x.kinds b) (length w.cells) sheet e.lent) _ _
      (over b (λ m. Leaves w e (entered x w e.lent b.seed sheet m)) (λ m. Leaves w other (entered x w e.lent b.seed sheet m)) (λ m p q. same p q)) h g
  once_at (Phase.opened b) Call.list h g =
      both (list_refusal (other_kinds x.kinds b) (length w.cells) b.count (length e.lent.output)) _ _
      (over b (λ m. Leaves w e (listed x w e.lent b.seed m)) (λ m. Leaves w other (listed x w e.lent b.seed m)) (λ m p q. same p q)) h g
  once_at (Phase.opened b) Call.seal h g =
      both (seal_refusal (other_kinds x.kinds b) (length w.cells) w.store.count (length e.lent.work)) _ _
      (over b (λ m. Writes x w e (contents b.seed m)) (λ m. Writes x w other (contents b.seed m))
      (λ m p q. both (write_refusal (x.codec.image_length (contents b.seed m)) w.store.count w.store.protected) _ _ (λ u v. same u.0 v.0) p q)) h g
  once_at (Phase.opened b) Call.abandon h g = same h g

pub one_end : {K Row V : Type 0} (x : Setup K Row V) → SetupLaws x → OneEnd x
one_end {K} {Row} {V} x l w e f p q h g =
    let to : f ≡ record { call = e.call; lent = e.lent; outcome = f.outcome; after = f.after; back = f.back } =
    λ i. record { call = sym p i; lent = sym q i; outcome = f.outcome; after = f.after; back = f.back } in
    let g' = subst (λ (u : Event Row V). Step x w u) to g in
    let t : Ends e f = subst (λ (u : Event Row V). Ends e u) (sym to) (once_at x l w e f.outcome f.after f.back w.phase e.call h.does g'.does) in
    record {
      outcome = t.outcome;
      phase = t.phase;
      count = t.count;
      protected = t.protected;
      shown = t.shown;
      kept = λ c a. seal_flushed x w e a c h ∙ t.shown ∙ sym (seal_flushed x w f (sym t.outcome ∙ a) (sym p ∙ c) g);
      cells = t.cells;
      back = t.back;
    }
