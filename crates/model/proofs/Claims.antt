-- Puts of the same pairs from one open seed and map keep the same blocks; and all claims together.
use Rattle.std.proofs.Common.{◌≡◌, ℕ, false, List, [], ◌∷◌, ◌++◌, map, Some, None, Option, sym, refl, ap, ◌∙◌, subst, append_assoc, arith}
use Rattle.kinds.specs.declared.record.Record.{Record}
use Rattle.layout.specs.Orders.{In}
use Rattle.maps.specs.Commands.{answers_to, map_after_sheet}
use Rattle.maps.specs.Maps.{Contents, contents}
use Rattle.maps.specs.declared.Answer.{Answer}
use Rattle.maps.specs.declared.Answer.TheVariants.{Full}
use Rattle.model.specs.Claims.{setting, Agrees, machine_after, saved_by, put_of, Puts, AllPut, Putting, OrderFree, ListsOfCalls, AllListsOfCalls}
use Rattle.model.specs.Faults.{Fault}
use Rattle.model.specs.Machines.{Machine, machine, Setting, or_refused, reply, act, unless_refused, after_reply, next}
use Rattle.model.specs.Refusals.{enter_refusal}
use Rattle.model.specs.Setups.{Setup, SetupLaws}
use Rattle.model.specs.Worlds.{World, Call, Outcome, Event}
use Rattle.model.proofs.Absorb.{do_all, do_all-++}
use Rattle.model.proofs.Ends.{has_end}
use Rattle.model.proofs.Layouts.{listing_laws}
use Rattle.model.proofs.Lists.{agree, same_kept, has_machine, tells_wrong}
use Rattle.model.proofs.Once.{one_end}
use Rattle.model.proofs.Puts.{put_row, same_puts, sheet_puts}
use Rattle.model.proofs.Sheets.{command_laws, sheet_laws}

module _ {K Row V : Type 0} (x : Setup K Row V) (s : Setting) where
  after_append : (m : Machine K V) (es fs : List (Event Row V)) → machine_after x s m (es ++ fs) ≡ machine_after x s (machine_after x s m es) fs
  after_append m [] fs = refl
  after_append m (e ∷ es) fs = after_append (next x s m e.call e.lent) es fs

  agrees_append : (m : Machine K V) (es fs : List (Event Row V)) → Agrees x s m (es ++ fs) → Agrees x s (machine_after x s m es) fs
  agrees_append m [] fs a = a
  agrees_append m (e ∷ es) fs a = agrees_append (next x s m e.call e.lent) es fs a.3

  unless_same : (o : Outcome Row V) (m : Machine K V) → unless_refused o m m ≡ m
  unless_same Outcome.accepted m = refl
  unless_same (Outcome.refused f) m = refl
  unless_same (Outcome.entered answers) m = refl
  unless_same (Outcome.listed n records) m = refl

  after_same : (o : Option (Outcome Row V)) (m : Machine K V) → after_reply o m m ≡ m
  after_same None m = refl
  after_same (Some o) m = unless_same o m

  -- all the pairs put on what is open
  abbrev put_all : Contents K V → List (Record Row V) → Contents K V
  put_all h ps = contents h.seed (do_all (put_row x.kinds) ps h.records)

  -- an accepted sheet of puts, none answered FULL, puts its pairs
  sheet_next : (r : Option Fault) (ps : List (Record Row V)) (h : Contents K V) (v : Option (Contents K V)) (answers : List (Answer V))
      → or_refused {Row = Row} {V = V} r (Outcome.entered (answers_to x.kinds (map put_of ps) h.records)) ≡ Outcome.entered answers → (In Full answers → ⊥)
      → (unless_refused {Row = Row} {V = V} (or_refused r (Outcome.entered (answers_to x.kinds (map put_of ps) h.records))) (machine v (Some h))
      (machine v (Some (contents h.seed (map_after_sheet x.kinds (map put_of ps) h.records))))).opened
      ≡ Some (put_all h ps)
  sheet_next (Some f) ps h v answers e full = let z : ◌≡◌ {A = ℕ} 0 1 = cc in absurd (omega arith)
  sheet_next None ps h v answers e full =
      let same : answers ≡ answers_to x.kinds (map put_of ps) h.records = cc in
      ap (λ (u : List (Record K V)). Some (contents h.seed u)) (sheet_puts x.kinds ps h.records (rw same at full))

  some_of : {A : Type 0} (a b : A) → Some a ≡ Some b → a ≡ b
  some_of a b e = cc

  -- one call
  puts_open : (v : Option (Contents K V)) (h : Contents K V) (e : Event Row V) (ps : List (Record Row V)) → Some e.outcome ≡ reply x s (machine v (Some h)) e.call e.lent
      → Puts e ps → (next x s (machine v (Some h)) e.call e.lent).opened ≡ Some (put_all h ps)
  puts_open v h e ps a (Puts.a_sheet answers c q full) =
      rw c (sheet_next (enter_refusal x.kinds false s.room (map put_of ps) e.lent) ps h v answers
      (sym (some_of e.outcome _ (rw c at a)) ∙ q) full)
  puts_open v h e ps a (Puts.a_list c q) =
      rw (c, q) (ap (λ (m : Machine K V). m.opened) (after_same (reply x s (machine v (Some h)) Call.list e.lent) (machine v (Some h))))
  puts_open v h e ps a (Puts.a_refusal f r q) =
      rw q (ap (λ (o : Option (Outcome Row V)). (after_reply o (machine v (Some h)) (act x (machine v (Some h)) e.call)).opened) (sym a ∙ ap Some r))

  puts_next : (m : Machine K V) (h : Contents K V) (e : Event Row V) (ps : List (Record Row V)) → m.opened ≡ Some h → Some e.outcome ≡ reply x s m e.call e.lent
      → Puts e ps → (next x s m e.call e.lent).opened ≡ Some (put_all h ps)
  puts_next m h e ps b a w =
      subst (λ (o : Option (Contents K V)). Some e.outcome ≡ reply x s (machine m.saved o) e.call e.lent
      → (next x s (machine m.saved o) e.call e.lent).opened ≡ Some (put_all h ps))
      (sym b) (λ q. puts_open m.saved h e ps q w) a

  -- all of them
  puts_all : (m : Machine K V) (h : Contents K V) (es fs : List (Event Row V)) (ps : List (Record Row V)) → m.opened ≡ Some h → Agrees x s m (es ++ fs) → AllPut es ps
      → (machine_after x s m es).opened ≡ Some (put_all h ps)
  puts_all m h [] fs ps b a w = rw w b
  puts_all m h (e ∷ es) fs ps b a (qs, rest, one, more, eq) =
      puts_all (next x s m e.call e.lent) (put_all h qs) es fs rest (puts_next m h e qs b a.0 one) a.3 more
      ∙ ap (λ (u : List (Record K V)). Some (contents h.seed u))
      (sym (ap (λ (u : List (Record Row V)). do_all (put_row x.kinds) u h.records) eq ∙ do_all-++ (put_row x.kinds) qs rest h.records))

  -- an accepted seal saves what is open
  seal_next : (m : Machine K V) (e : Event Row V) → e.call ≡ Call.seal → e.outcome ≡ Outcome.accepted → Some e.outcome ≡ reply x s m e.call e.lent
      → (next x s m e.call e.lent).saved ≡ m.opened
  seal_next m e c q a = rw (← a, q, c)

module _ {K Row V : Type 0} (x : Setup K Row V) (l : SetupLaws x) where
  saved_puts : (w : World Row V) (m : Machine K V) (es fs : List (Event Row V)) (e : Event Row V) (h : Contents K V) (ps : List (Record Row V)) → Putting x h ps w m es fs e
      → saved_by x w m (es ++ fs) e ≡ Some (contents h.seed (do_all (put_row x.kinds) ps h.records))
  saved_puts w m es fs e h ps p =
      let s = setting w in
      let all : Agrees x s m ((es ++ fs) ++ (e ∷ [])) = agree x l w m ((es ++ fs) ++ (e ∷ [])) p.sealing.begins p.sealing.run in
      let mid : Agrees x s (machine_after x s m es) (fs ++ (e ∷ [])) =
      agrees_append x s m es (fs ++ (e ∷ [])) (subst (λ (u : List (Event Row V)). Agrees x s m u) (append_assoc es fs (e ∷ [])) all) in
      let last : Agrees x s (machine_after x s m (es ++ fs)) (e ∷ []) = agrees_append x s m (es ++ fs) (e ∷ []) all in
      ap (λ (u : Machine K V). u.saved) (after_append x s m (es ++ fs) (e ∷ []))
      ∙ seal_next x s (machine_after x s m (es ++ fs)) e p.sealing.seal p.sealing.accepted last.0
      ∙ ap (λ (u : Machine K V). u.opened) (after_append x s m es fs)
      ∙ puts_all x s (machine_after x s m es) h fs (e ∷ []) ps p.from mid p.put

  order_free : OrderFree x
  order_free w₁ w₂ m₁ m₂ es₁ es₂ fs₁ fs₂ e₁ e₂ h ps₁ ps₂ n p₁ p₂ same =
      (same_kept x l w₁ w₂ m₁ m₂ (es₁ ++ fs₁) (es₂ ++ fs₂) e₁ e₂ n p₁.sealing p₂.sealing).1
      (saved_puts w₁ m₁ es₁ fs₁ e₁ h ps₁ p₁
      ∙ ap (λ (u : List (Record K V)). Some (contents h.seed u)) (same_puts x.kinds l.kinds.key l.kinds.value.joins ps₁ ps₂ h.records same)
      ∙ sym (saved_puts w₂ m₂ es₂ fs₂ e₂ h ps₂ p₂))

  pub lists_of_calls : ListsOfCalls x
  lists_of_calls = record {
    has_machine = has_machine x l;
    tells_wrong = tells_wrong x l;
    agree = agree x l;
    same_kept = same_kept x l;
    order_free = order_free;
    one_end = one_end x l;
    has_end = has_end x l;
    commands = command_laws x.kinds l.kinds.key;
    sheets = sheet_laws x.kinds l.kinds.key;
    listings = listing_laws x.kinds l.kinds.key;
  }

pub all_lists_of_calls : (K Row V : Type 0) → AllListsOfCalls K Row V
all_lists_of_calls K Row V x l = lists_of_calls x l
