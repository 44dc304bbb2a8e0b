-- What an audit of two stores rests on, over plain values.
use Rattle.std.proofs.Common.{◌≡◌, ℕ, Bool, true, false, List, length, replicate, Some, None, Ok, Err, Option, Result, sym, refl, ap, ◌∙◌, subst, inl, inr, arith}
use lib.ListN.{length-replicate}
use Rattle.compare.specs.Compare.{Compares}
use Rattle.contents.specs.Finds.{Reading, Tried, not_tried}
use Rattle.kinds.specs.declared.record.Record.{Record}
use Rattle.maps.specs.Maps.{Contents, Laid}
use Rattle.model.specs.Faults.{Fault}
use Rattle.model.specs.Refusals.{begin_refusal}
use Rattle.model.specs.Setups.{Setup, Shows, Written}
use Rattle.model.specs.Steps.{Unless, empty}
use Rattle.model.specs.Worlds.{Store}
use Rattle.model.proofs.Refusals.{moved}
use Rattle.table.specs.Runs.{Stores}
use Rattle.audit.specs.Audits.{Audits, Examines, audited, examined}
use Rattle.audit.specs.Pairs.{SideFault, at_side, Comparison, BothTold, FirstTold, AuditsTwo, Room, OneMap, YesExactly, EqualImages}
use Rattle.audit.proofs.Readings.{audits}

-- an answer that is given is no refusal
not_both : {A E B : Type 0} (a : A) (e : E) → ◌≡◌ {A = Result A E} (Ok a) (Err e) → B
not_both a e p = let z : ◌≡◌ {A = ℕ} 0 1 = cc in absurd (omega arith)

-- what is the case where no refusal can be
none_refused : (o : Option Fault) (R : Fault → Type 0) (A : Type 0) → ((f : Fault) → R f → ⊥) → Unless o R A → (o ≡ None) × A
none_refused (Some f) R A never u = absurd (never f u)
none_refused None R A never u = (refl, u)

-- the parts of equal readings and comparisons
abbrev answer_in : {A Row V : Type 0} → Reading A Row V → Result A Fault
answer_in r = r.answer

abbrev cells_in : {A Row V : Type 0} → Reading A Row V → List (Option (Record Row V))
cells_in r = r.cells

abbrev work_in : {A Row V : Type 0} → Reading A Row V → List ℕ
work_in r = r.work

abbrev told_in : {Row V : Type 0} → Comparison Row V → Result Bool SideFault
told_in r = r.answer

abbrev pair_or : ℕ × ℕ → Result (ℕ × ℕ) Fault → ℕ × ℕ
pair_or q (Ok p) = p
pair_or q (Err f) = q

abbrev said : Result Bool SideFault → Bool
said (Ok b) = b
said (Err f) = false

module _ {K Row V : Type 0} (x : Setup K Row V) (s : Store) (cells : List (Option (Record Row V))) (work : List ℕ) where
  -- accepted, so the lengths are right, and the store shows the image of the contents of which that is answered and left
  taken : (given : Contents K V → Reading (ℕ × ℕ) Row V) (r : Reading (ℕ × ℕ) Row V) (p : ℕ × ℕ) → r.answer ≡ Ok p
      → Unless (begin_refusal s.count (length cells) (length work)) (λ f. r ≡ not_tried cells work f) (Tried x s cells work given r)
      → Room s cells work × ((h : Contents K V) × Shows x s.count s.shown h × (r ≡ given h))
  taken given r p e u = (free.0, read free.1)
    where
      free : (begin_refusal s.count (length cells) (length work) ≡ None) × Tried x s cells work given r
      free = none_refused (begin_refusal s.count (length cells) (length work)) (λ f. r ≡ not_tried cells work f) (Tried x s cells work given r)
          (λ f q. not_both p f (sym e ∙ ap answer_in q)) u

      read : Tried x s cells work given r → (h : Contents K V) × Shows x s.count s.shown h × (r ≡ given h)
      read (inl t) = t
      read (inr (f, wrong, q)) = not_both p f (sym e ∙ ap answer_in q)

  module _ (p : ℕ × ℕ) (held : List (Option (Record Row V))) (left : List ℕ) (e : Examines x s cells work (record { answer = Ok p; cells = held; work = left })) where
    found : Room s cells work × ((h : Contents K V) × Shows x s.count s.shown h × (record { answer = Ok p; cells = held; work = left } ≡ examined x work h))
    found = taken (examined x work) (record { answer = Ok p; cells = held; work = left }) p refl e

    laid_as : Laid x.kinds found.1.0.seed found.1.0.records held
    laid_as = record { lawful = found.1.1.lawful; is = ap cells_in found.1.2 }

    -- the cells hold a map of so many records, under the seed that was answered
    pub stored : Stores x.kinds p.1 p.0 held
    stored =
        let pair = ap (pair_or p) (ap answer_in found.1.2) in (
          found.1.0.records,
          subst (λ n. Laid x.kinds n found.1.0.records held) (sym (ap (λ (q : ℕ × ℕ). q.1) pair)) laid_as,
          ap (λ (q : ℕ × ℕ). q.0) pair,
        )

    -- the map is that of the image
    held_by : Written x → (g : Contents K V) → Shows x s.count s.shown g → Laid x.kinds g.seed g.records held
    held_by w g shows =
        let h = found.1.0 in
        let of-h = found.1.1 in
        let same : h ≡ g = w.apart s.count h g of-h.lawful shows.lawful of-h.fits shows.fits (sym of-h.image ∙ shows.image) in
        subst (λ (q : Contents K V). Laid x.kinds q.seed q.records held) same laid_as

module _ {K Row V : Type 0} (x : Setup K Row V) (s t : Store) (cells other : List (Option (Record Row V))) (work : List ℕ) where
  -- the first is refused, or the second, or both are read
  pub first_refused : (f : Fault) (held : List (Option (Record Row V))) (left : List ℕ) → Examines x s cells work (record { answer = Err f; cells = held; work = left })
      → AuditsTwo x s t cells other work (record { answer = Err (at_side 1 f); first = held; second = other; work = left })
  first_refused f held left e = (record { answer = Err f; cells = held; work = left }, audits x s cells work (record { answer = Err f; cells = held; work = left }) e, refl)

  module _ (p : ℕ × ℕ) (held cleared : List (Option (Record Row V))) (left : List ℕ) (e : Examines x s cells work (record { answer = Ok p; cells = held; work = left }))
      (empties : cleared ≡ empty (length cells)) where
    pub second_refused : (f : Fault) (held' : List (Option (Record Row V))) (left' : List ℕ) → Examines x t other left (record { answer = Err f; cells = held'; work = left' })
        → AuditsTwo x s t cells other work (record { answer = Err (at_side 2 f); first = cleared; second = held'; work = left' })
    second_refused f held' left' e' = (
      record { answer = Ok p; cells = empty (length cells); work = left },
      audits x s cells work (record { answer = Ok p; cells = held; work = left }) e,
      (
        record { answer = Err f; cells = held'; work = left' },
        audits x t other left (record { answer = Err f; cells = held'; work = left' }) e',
        λ i. record { answer = Err (at_side 2 f); first = empties i; second = held'; work = left' },
      ),
    )

    pub both_read : Written x → (q : ℕ × ℕ) (held' cleared' : List (Option (Record Row V))) (left' : List ℕ) → Examines x t other left (record { answer = Ok q; cells = held'; work = left' })
        → cleared' ≡ empty (length other) → (same : Bool) → Compares x.kinds held held' same
        → AuditsTwo x s t cells other work (record { answer = Ok same; first = cleared; second = cleared'; work = left' })
    both_read w q held' cleared' left' e' empties' same compares = (
      record { answer = Ok p; cells = empty (length cells); work = left },
      audits x s cells work (record { answer = Ok p; cells = held; work = left }) e,
      (
        record { answer = Ok q; cells = empty (length other); work = left' },
        audits x t other left (record { answer = Ok q; cells = held'; work = left' }) e',
        (
          same,
          λ g h of-g of-h. compares g.seed h.seed g.records h.records (held_by x s cells work p held left e w g of-g) (held_by x t other left q held' left' e' w h of-h),
          λ i. record { answer = Ok same; first = empties i; second = empties' i; work = left' },
        ),
      ),
    )

  -- an image is not refused
  accepted : Written x → (u : Store) (lent : List (Option (Record Row V))) (bytes : List ℕ) (a : Reading (ℕ × ℕ) Row V) → Audits x u lent bytes a → Room u lent bytes
      → (g : Contents K V) → Shows x u.count u.shown g → (h : Contents K V) × (a ≡ audited lent bytes h)
  accepted w u lent bytes a audit room g shows = read (moved (λ f. a ≡ not_tried lent bytes f) (Tried x u lent bytes (audited lent bytes) a) room audit)
    where
      read : Tried x u lent bytes (audited lent bytes) a → (h : Contents K V) × (a ≡ audited lent bytes h)
      read (inl (h, of-h, e)) = (h, e)
      read (inr (f, wrong, e)) = let none = sym wrong ∙ w.sound u.count u.shown g shows in let z : ◌≡◌ {A = ℕ} 0 1 = cc in absurd (omega arith)

  -- the work bytes that are left are as many
  as_many : (bytes : List ℕ) → bytes ≡ replicate (length work) 0 → (u : Store) (lent : List (Option (Record Row V))) → begin_refusal u.count (length lent) (length bytes) ≡ begin_refusal u.count (length lent) (length work)
  as_many bytes e u lent = ap (λ (n : ℕ). begin_refusal u.count (length lent) n) (ap length e ∙ length-replicate (length work) 0)

  module _ (w : Written x) (r : Comparison Row V) (both : AuditsTwo x s t cells other work r) where
    abbrev a : Reading (ℕ × ℕ) Row V
    a = both.0

    one_map : r.answer ≡ Ok true → Room s cells work × Room t other work × OneMap x s t
    one_map said-yes = by_first a.answer refl both.2
      where
        by_second : (p : ℕ × ℕ) → a.answer ≡ Ok p → (b : Reading (ℕ × ℕ) Row V) → Audits x t other a.work b → (q : Result (ℕ × ℕ) Fault) → b.answer ≡ q → BothTold x s t a b q r
            → Room s cells work × Room t other work × OneMap x s t
        by_second p e b audit (Err f) e' told = not_both true (at_side 2 f) (sym said-yes ∙ ap told_in told)
        by_second p e b audit (Ok q) e' (same, decides, told) =
            let first = taken x s cells work (audited cells work) a p e both.1 in
            let second = taken x t other a.work (audited other a.work) b q e' audit in
            let g = first.1.0 in
            let h = second.1.0 in (
              first.0,
              sym (as_many a.work (ap work_in first.1.2) t other) ∙ second.0,
              (g, h, first.1.1, second.1.1, (decides g h first.1.1 second.1.1).0 (ap said (sym (ap told_in told) ∙ said-yes))),
            )

        by_first : (p : Result (ℕ × ℕ) Fault) → a.answer ≡ p → FirstTold x s t other a p r → Room s cells work × Room t other work × OneMap x s t
        by_first (Err f) e told = not_both true (at_side 1 f) (sym said-yes ∙ ap told_in told)
        by_first (Ok p) e (b, audit, told) = by_second p e b audit b.answer refl told

    says_yes : Room s cells work × Room t other work × OneMap x s t → r.answer ≡ Ok true
    says_yes (room, room', (g, h, of-g, of-h, equal)) =
        let first = accepted w s cells work a both.1 room g of-g in
        let next = subst (λ (q : Result (ℕ × ℕ) Fault). FirstTold x s t other a q r) (ap answer_in first.1) both.2 in
        let second = accepted w t other a.work next.0 next.1 (as_many a.work (ap work_in first.1) t other ∙ room') h of-h in
        let last = subst (λ (q : Result (ℕ × ℕ) Fault). BothTold x s t a next.0 q r) (ap answer_in second.1) next.2 in
        ap told_in last.2 ∙ ap Ok ((last.1 g h of-g of-h).1 equal)

    pub yes_exactly : YesExactly x s t cells other work r.answer
    yes_exactly = (one_map, says_yes)

    pub equal_images : length s.shown ≡ s.count → length t.shown ≡ t.count → EqualImages x s t cells other work r.answer
    equal_images size size' room room' same h shows =
        let counts : s.count ≡ t.count = sym size ∙ ap length same ∙ size' in
        says_yes (room, room', (h, h, shows, subst (λ shown. Shows x t.count shown h) same (subst (λ n. Shows x n s.shown h) counts shows), refl))
