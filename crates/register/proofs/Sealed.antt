-- What a seal rests on, over plain values.
use Rattle.std.proofs.Common.{◌≡◌, ℕ, ◌*◌, ◌/◌, ◌≤◌, Bool, false, ◌||◌, nat_lt, List, [], ◌∷◌, length, replicate, None, Ok, Option, sym, refl, ap, ap₂, ◌∙◌, inl, arith}
use Rattle.std.proofs.lemmas.Bool.Decides.{nat_tests}
use Rattle.image.specs.Image.{image_length}
use Rattle.image_save.specs.Saves.{ShowsImage}
use Rattle.image_writer.specs.Writes.{Holds, LongAs, HasRoom}
use Rattle.kinds.specs.Kinds.{KeyKind, ValueKind}
use Rattle.kinds.specs.declared.record.Record.{Record}
use Rattle.maps.specs.Maps.{Kinds, kinds_of, contents}
use Rattle.model.specs.Faults.{kind_fault, lent_fault, short_fault, protected_fault}
use Rattle.model.specs.Refusals.{first, not_1024, other_kinds, list_refusal, seal_refusal}
use Rattle.model.specs.Steps.{Step}
use Rattle.model.specs.Worlds.{Store}
use Rattle.model.proofs.Refusals.{not_refused, seal_taken, write_taken}
use Rattle.sheets.specs.Checks.{IsTable}
use Rattle.store.specs.declared.fault.BlockFault.{Ghosts as FaultWords}
use Rattle.store.specs.declared.store.Store.{Ghosts as StoreWords}
use Rattle.contents.specs.Setups.{setup, meaning}
use Rattle.register.specs.Seals.{MaySeal, seal_event}
use Rattle.register.specs.Worlds.{batch_in, open_world}
use Rattle.register.specs.declared.batch.Closed.{Closed}
use Rattle.register.specs.declared.batch.Open.{Open}
use Rattle.register.proofs.Listed.{laid_for}

-- nothing bounds the blocks, so the work bytes are divided
fewer : (work count : ℕ) → nat_lt (work / 32) count ≡ nat_lt work (32 * count)
fewer work count = grind (arith, nat_tests)

as_seal : (other : Bool) (room count work : ℕ) → list_refusal other room count (work / 32) ≡ seal_refusal other room count work
as_seal other room count work = ap (λ b. first ((other, kind_fault) ∷ (not_1024 room || b, lent_fault) ∷ [])) (fewer work count)

module _ {S K Row V : Type 0} (x : Kinds K Row V) (s : Store) (o : Open S) (cells : List (Option (Record Row V))) (work : List ℕ) where
  -- what the looks have told
  pub may_seal : (long blocks : ℕ) (protected : Bool) → blocks ≡ s.count → None ≡ list_refusal (other_kinds x (batch_in o)) (length cells) blocks (length work / 32)
      → IsTable x o.shape.seed o.shape.count o.shape.capacity cells → LongAs x o.shape.count cells long → nat_lt (32 * blocks) long ≡ false → protected ≡ s.protected → protected ≡ false
      → MaySeal x s o cells work
  may_seal long blocks protected n free t longs fits p opened =
      let is : long ≡ image_length x (contents o.shape.seed t.0.0) = longs o.shape.seed t.0.0 (record { laid = t.0.1; counts = t.0.2 }) in
      record {
        free = free ∙ as_seal (other_kinds x (batch_in o)) (length cells) blocks (length work) ∙ ap (λ b. seal_refusal (other_kinds x (batch_in o)) (length cells) b (length work)) n;
        table = t;
        fits = sym (ap₂ (λ b c. first ((b, short_fault) ∷ (c, protected_fault) ∷ [])) (sym (ap₂ (λ b l. nat_lt (32 * b) l) n is) ∙ fits) (sym p ∙ opened));
      }

  module _ (may : MaySeal x s o cells work) where
    abbrev m : List (Record K V)
    m = may.table.0.0

    pub holds : Holds x o.shape.seed o.shape.count cells m
    holds = record { laid = may.table.0.1; counts = may.table.0.2 }

    pub suffices : 32 * s.count ≤ length work
    suffices = (seal_taken (other_kinds x (batch_in o)) (length cells) s.count (length work) (sym may.free)).2

    -- the image has room, and the store may be written
    pub may_write : HasRoom x o.shape.seed o.shape.count cells (32 * s.count) × (s.protected ≡ false)
    may_write =
        let w = write_taken (image_length x (contents o.shape.seed m)) s.count s.protected (sym may.fits) in
        ((m, holds, w.0), w.1)

module _ {S F K Row V : Type 0} (k : KeyKind K Row) (v : ValueKind V) (w : FaultWords F) (d : StoreWords S F) (o : Open S) (cells : List (Option (Record Row V))) (work : List ℕ)
    (may : MaySeal (kinds_of k v) (meaning d o.store) o cells work) where
  pub sealed_step : (s : S) (c : Closed S) (cells' : List (Option (Record Row V))) (work' : List ℕ) → c.store ≡ s → d.count s ≡ d.count o.store → d.protected s ≡ d.protected o.store
      → ShowsImage (kinds_of k v) o.shape.seed o.shape.count cells (d.count o.store) (d.shown s) → d.kept s ≡ d.shown s → cells' ≡ replicate (length cells) None → work' ≡ replicate (length work) 0
      → Step (setup k v) (open_world d o cells) (seal_event {F = F} w d work (Ok c) cells' work')
  sealed_step s c cells' work' store count protected shows keeps emptied zero =
      let t = may.table in
      record {
        does = not_refused _ _ may.free (inl (
          t.0.0,
          laid_for k v w d o cells t,
          not_refused _ _ may.fits (
            record {
              outcome = refl;
              phase = refl;
              count = ap d.count store ∙ count;
              protected = ap d.protected store ∙ protected;
              shown = ap d.shown store ∙ shows t.0.0 (holds (kinds_of k v) (meaning d o.store) o cells work may);
              cells = emptied;
              lent = λ i. record { work = zero i; scratch = []; answers = []; output = [] };
            },
            ap d.kept store ∙ keeps ∙ sym (ap d.shown store),
          ),
        ));
      }
