-- The theorems over lists of calls, but for the order of puts.
use Rattle.std.proofs.Common.{◌≡◌, ℕ, ◌↔◌, List, [], ◌∷◌, ◌++◌, Some, None, Option, sym, refl, ap, ◌∙◌, arith}
use Rattle.kinds.specs.declared.record.Record.{Record}
use Rattle.maps.specs.Maps.{Contents, Lawful}
use Rattle.model.specs.Claims.{setting, OpenStands, ImageOf, SealKeeps, Agrees, machine_after, BeginsAs, HasMachine, TellsWrong, RunsAgree, Sealing, saved_by, SameKept}
use Rattle.model.specs.Faults.{Fault}
use Rattle.model.specs.Machines.{Machine, machine, Setting, next}
use Rattle.model.specs.Runs.{Run}
use Rattle.model.specs.Setups.{Place, Setup, SetupLaws, Fits, Found, Proper}
use Rattle.model.specs.Worlds.{Phase, World, Event}
use Rattle.model.proofs.Simulation.{SimW, stands, follows}

module _ {K Row V : Type 0} (x : Setup K Row V) (l : SetupLaws x) where
  agrees_from : (s : Setting) (m : Machine K V) (w : World Row V) (es : List (Event Row V)) → SimW x s m w → Run x w es → Agrees x s m es
  agrees_from s m w [] i r = tt
  agrees_from s m w (e ∷ es) i r =
      let h = follows x l s w e m i r.0 in
      (h.reply, h.kept, stands h.sim, agrees_from s (next x s m e.call e.lent) e.after es h.sim r.1)

  first_lies : (o : Option (Contents K V)) (cells : List (Option (Record Row V))) → o ≡ None → OpenStands x o Phase.closed cells
  first_lies None cells e = tt
  first_lies (Some g) cells e = let z : ◌≡◌ {A = ℕ} 0 1 = cc in absurd (omega arith)

  first_sim : (w : World Row V) (m : Machine K V) → BeginsAs x w m → SimW x (setting w) m w
  first_sim w m b = record { blocks = refl; lock = refl; room = refl; saved = b.saved; found = λ p. refl; lies = rw b.phase (first_lies m.opened w.cells b.opened) }

  pub agree : RunsAgree x
  agree w m es b r = agrees_from (setting w) m w es (first_sim w m b) r

  -- what is so at the last call
  at_last : (s : Setting) (m : Machine K V) (es : List (Event Row V)) (e : Event Row V) → Agrees x s m (es ++ (e ∷ [])) → SealKeeps x s e (machine_after x s m (es ++ (e ∷ [])))
  at_last s m [] e a = a.1
  at_last s m (f ∷ es) e a = at_last s (next x s m f.call f.lent) es e a.3

  found_last : (s : Setting) (m : Machine K V) (es : List (Event Row V)) (e : Event Row V) → Agrees x s m (es ++ (e ∷ []))
      → Found x s.count e.after.store.shown (machine_after x s m (es ++ (e ∷ []))).saved
  found_last s m [] e a = a.2.saved
  found_last s m (f ∷ es) e a = found_last s (next x s m f.call f.lent) es e a.3

  -- the blocks are the image of what is saved, lawful contents that fit
  record Stored (count : ℕ) (blocks : List Place) (o : Option (Contents K V)) : Type 0 where
    pub held : Contents K V
    pub is : o ≡ Some held
    pub lawful : Lawful x.kinds held
    pub fits : Fits x count held
    pub image : blocks ≡ x.codec.image count held

  stored : (count : ℕ) (blocks shown : List Place) (o : Option (Contents K V)) → ImageOf x count blocks o → Found x count shown o → Stored count blocks o
  stored count blocks shown None p f = absurd p
  stored count blocks shown (Some g) p f = record { held = g; is = refl; lawful = f.lawful; fits = f.fits; image = p }

  stored_last : (w : World Row V) (m : Machine K V) (es : List (Event Row V)) (e : Event Row V) → Sealing x w m es e
      → Stored w.store.count e.after.store.kept (saved_by x w m es e)
  stored_last w m es e h =
      let all = agree w m (es ++ (e ∷ [])) h.begins h.run in
      stored w.store.count e.after.store.kept e.after.store.shown (saved_by x w m es e)
      (at_last (setting w) m es e all h.seal h.accepted) (found_last (setting w) m es e all)

  alike : (n k : ℕ) (a b : List Place) (o p : Option (Contents K V)) → n ≡ k → Stored n a o → Stored k b p → (a ≡ b) ↔ (o ≡ p)
  alike n k a b o p q g h =
      let f : Fits x n h.held = rw q h.fits in
      let i : b ≡ x.codec.image n h.held = rw q h.image in (
        (λ e. g.is ∙ ap Some (l.written.apart n g.held h.held g.lawful h.lawful g.fits f (sym g.image ∙ e ∙ i)) ∙ sym h.is),
        (λ e. let s : Some g.held ≡ Some h.held = sym g.is ∙ e ∙ h.is in let same : g.held ≡ h.held = cc in g.image ∙ ap (x.codec.image n) same ∙ sym i),
      )

  pub same_kept : SameKept x
  same_kept w₁ w₂ m₁ m₂ es₁ es₂ e₁ e₂ n h₁ h₂ =
      alike w₁.store.count w₂.store.count e₁.after.store.kept e₂.after.store.kept (saved_by x w₁ m₁ es₁ e₁) (saved_by x w₂ m₂ es₂ e₂) n
      (stored_last w₁ m₁ es₁ e₁ h₁) (stored_last w₂ m₂ es₂ e₂ h₂)

  pub has_machine : HasMachine x
  has_machine w p =
      let f = l.written.told w.store.count w.store.shown in
      (machine f.0 None, record { phase = p; saved = f.1; opened = refl })

  pub wrong_or_none : (count : ℕ) (shown : List Place) → Proper count shown → Found x count shown None → (o : Option Fault) → x.codec.wrong shown ≡ o
      → (f : Fault) × (x.codec.wrong shown ≡ Some f)
  wrong_or_none count shown p none None e = let t = l.written.complete count shown p e in absurd (none t.0 t.1)
  wrong_or_none count shown p none (Some f) e = (f, e)

  none_saved : (count : ℕ) (shown : List Place) (o : Option (Contents K V)) → Found x count shown o → (f : Fault) → x.codec.wrong shown ≡ Some f → o ≡ None
  none_saved count shown None s f e = refl
  none_saved count shown (Some h) s f e = let y = l.written.sound count shown h s in let z : ◌≡◌ {A = ℕ} 0 1 = cc in absurd (omega arith)

  pub tells_wrong : TellsWrong x
  tells_wrong w m b p = (
    (λ e. wrong_or_none w.store.count w.store.shown p (rw e at b.saved) (x.codec.wrong w.store.shown) refl),
    (λ (f, e). none_saved w.store.count w.store.shown m.saved b.saved f e),
  )
