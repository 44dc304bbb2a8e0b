-- Where the world is as the machine has it, each call has an end.
use Rattle.std.proofs.Common.{◌≡◌, ℕ, List, length, Some, None, Option, sym, refl, ◌∙◌, subst, inl, inr, arith}
use Rattle.kinds.specs.declared.record.Record.{Record}
use Rattle.maps.specs.Maps.{Contents, contents}
use Rattle.model.specs.Claims.{OpenStands, SeedFits, HasEnd}
use Rattle.model.specs.Faults.{Fault}
use Rattle.model.specs.Machines.{Setting, reply_of}
use Rattle.model.specs.Refusals.{start_refusal, begin_refusal, other_kinds, enter_refusal, list_refusal, seal_refusal, write_refusal}
use Rattle.model.specs.Setups.{Place, Setup, SetupLaws, Found, Proper}
use Rattle.model.specs.Steps.{Left, Leaves, untouched, Refuses, Unless, started, begun, not_begun, Reads, LaidFor, Over, entered, listed, sealed, Flushed, Writes, abandoned, StepAt, Step}
use Rattle.model.specs.Worlds.{Batch, Phase, World, Call, Lent, Outcome, Event}
use Rattle.model.proofs.Lists.{wrong_or_none}
use Rattle.model.proofs.Simulation.{follows, unstands}

module _ {K Row V : Type 0} (x : Setup K Row V) (w : World Row V) (l : Lent Row V) where
  -- the event that leaves that, with these blocks kept
  abbrev ended : Call Row V → Left Row V → List Place → Event Row V
  ended c o kept = record {
    call = c;
    lent = l;
    outcome = o.outcome;
    after = record {
      store = record { count = w.store.count; protected = w.store.protected; shown = o.shown; kept = kept };
      phase = o.phase;
      cells = o.cells;
    };
    back = o.lent;
  }

  pub record Made (c : Call Row V) (P : Event Row V → Type 0) : Type 0 where
    pub left : Left Row V
    pub kept : List Place
    pub is : P (ended c left kept)

  leaves : (c : Call Row V) (o : Left Row V) (kept : List Place) → Leaves w (ended c o kept) o
  leaves c o kept = record { outcome = refl; phase = refl; count = refl; protected = refl; shown = refl; cells = refl; lent = refl }

  -- what leaves the store's kept as it was
  simply : (c : Call Row V) (o : Left Row V) → Made c (λ e. Leaves w e o)
  simply c o = record { left = o; kept = w.store.kept; is = leaves c o w.store.kept }

  unless : (c : Call Row V) (r : Option Fault) (A : Event Row V → Type 0) → Made c A → Made c (λ e. Unless r (Refuses w e) (A e))
  unless c (Some f) A m = record { left = untouched w l f; kept = w.store.kept; is = leaves c (untouched w l f) w.store.kept }
  unless c None A m = record { left = m.left; kept = m.kept; is = m.is }

  over : (c : Call Row V) (b : Batch) (m : List (Record K V)) (P : Event Row V → List (Record K V) → Type 0) → LaidFor x.kinds b m w.cells
      → Made c (λ e. P e m) → Made c (λ e. Over x b w e (P e))
  over c b m P h e = record { left = e.left; kept = e.kept; is = inl (m, h, e.is) }

  writes : (h : Contents K V) → Made Call.seal (λ e. Writes x w e h)
  writes h =
      let o = sealed x w l h in
      let e = unless Call.seal (write_refusal (x.codec.image_length h) w.store.count w.store.protected) (λ e. Leaves w e o × Flushed e)
      (record { left = o; kept = o.shown; is = (leaves Call.seal o o.shown, refl) }) in
      record { left = e.left; kept = e.kept; is = e.is }

  reads : SetupLaws x → Proper w.store.count w.store.shown → (v : Option (Contents K V)) → Found x w.store.count w.store.shown v → Made Call.begin (Reads x w)
  reads laws p (Some h) s =
      record { left = begun x w l h; kept = w.store.kept; is = inl (h, s, leaves Call.begin (begun x w l h) w.store.kept) }
  reads laws p None s =
      let t = wrong_or_none x laws w.store.count w.store.shown p s (x.codec.wrong w.store.shown) refl in
      record { left = not_begun w l t.0; kept = w.store.kept; is = inr (t.0, t.1, leaves Call.begin (not_begun w l t.0) w.store.kept) }

  no_reply : {A : Type 0} (o : Outcome Row V) → None ≡ Some o → A
  no_reply o e = let z : ◌≡◌ {A = ℕ} 0 1 = cc in absurd (omega arith)

  module _ (s : Setting) (v : Option (Contents K V)) (o : Outcome Row V) where
    closed_made : SetupLaws x → Proper w.store.count w.store.shown → Found x w.store.count w.store.shown v
        → (c : Call Row V) → SeedFits c → reply_of x s v None c l ≡ Some o → Made c (λ e. StepAt x w e Phase.closed c)
    closed_made laws p f (Call.start t) small q =
        let e = unless (Call.start t) (start_refusal w.store.count (length w.cells)) (λ e. Leaves w e (started x w l t)) (simply (Call.start t) (started x w l t)) in
        record { left = e.left; kept = e.kept; is = (small, e.is) }
    closed_made laws p f Call.begin small q =
        let e = unless Call.begin (begin_refusal w.store.count (length w.cells) (length l.work)) (Reads x w) (reads laws p v f) in
        record { left = e.left; kept = e.kept; is = e.is }
    closed_made laws p f (Call.enter sheet) small q = no_reply o q
    closed_made laws p f Call.list small q = no_reply o q
    closed_made laws p f Call.seal small q = no_reply o q
    closed_made laws p f Call.abandon small q = no_reply o q

    open_made : (h : Contents K V) (b : Batch) → LaidFor x.kinds b h.records w.cells
        → (c : Call Row V) → reply_of x s v (Some h) c l ≡ Some o → Made c (λ e. StepAt x w e (Phase.opened b) c)
    open_made h b laid (Call.start t) q = no_reply o q
    open_made h b laid Call.begin q = no_reply o q
    open_made h b laid (Call.enter sheet) q =
        let c = Call.enter sheet in
        let e = unless c (enter_refusal x.kinds (other_kinds x.kinds b) (length w.cells) sheet l) (λ e. Over x b w e (λ m. Leaves w e (entered x w l b.seed sheet m)))
        (over c b h.records (λ e m. Leaves w e (entered x w l b.seed sheet m)) laid (simply c (entered x w l b.seed sheet h.records))) in
        record { left = e.left; kept = e.kept; is = e.is }
    open_made h b laid Call.list q =
        let e = unless Call.list (list_refusal (other_kinds x.kinds b) (length w.cells) b.count (length l.output)) (λ e. Over x b w e (λ m. Leaves w e (listed x w l b.seed m)))
        (over Call.list b h.records (λ e m. Leaves w e (listed x w l b.seed m)) laid (simply Call.list (listed x w l b.seed h.records))) in
        record { left = e.left; kept = e.kept; is = e.is }
    open_made h b laid Call.seal q =
        let e = unless Call.seal (seal_refusal (other_kinds x.kinds b) (length w.cells) w.store.count (length l.work)) (λ e. Over x b w e (λ m. Writes x w e (contents b.seed m)))
        (over Call.seal b h.records (λ e m. Writes x w e (contents b.seed m)) laid (writes (contents b.seed h.records))) in
        record { left = e.left; kept = e.kept; is = e.is }
    open_made h b laid Call.abandon q =
        let e = simply Call.abandon (abandoned w l) in
        record { left = e.left; kept = e.kept; is = e.is }

    made : SetupLaws x → Proper w.store.count w.store.shown → Found x w.store.count w.store.shown v → (p : Phase) (u : Option (Contents K V)) → OpenStands x u p w.cells
        → (c : Call Row V) → SeedFits c → reply_of x s v u c l ≡ Some o → Made c (λ e. StepAt x w e p c)
    made laws p f Phase.closed None lies c small q = closed_made laws p f c small q
    made laws p f Phase.closed (Some h) lies c small q = absurd lies
    made laws p f (Phase.opened b) None lies c small q = absurd lies
    made laws p f (Phase.opened b) (Some h) lies c small q =
        open_made h b
        (subst (λ (d : Batch). LaidFor x.kinds d h.records w.cells) (sym lies.1)
        (record { laid = record { lawful = lies.0; is = lies.2 }; count = refl; room = refl })) c q

pub has_end : {K Row V : Type 0} (x : Setup K Row V) → SetupLaws x → HasEnd x
has_end {K} {Row} {V} x laws s m w c l o i p small q =
    let f : Found x w.store.count w.store.shown m.saved = rw i.count i.saved in
    let e = made x w l s m.saved o laws p f w.phase m.opened i.opened c small q in
    let end = ended x w l c e.left e.kept in
    let step : Step x w end = record { does = e.is } in
    let r : Some end.outcome ≡ Some o = (follows x laws s w end m (unstands i) step).reply ∙ q in
    (end, refl, refl, cc, step)
