-- What a reading rests on: the store as it is read, in the words of the plain machine.
use Rattle.std.proofs.Common.{◌≡◌, ℕ, suc, ◌+◌, ◌-◌, ◌*◌, ◌≤◌, Bool, cond, List, [], ◌∷◌, ◌++◌, length, take, drop, replicate, Some, None, Ok, Err, Option, Result, sym, refl, ap, ◌∙◌, subst, inl, inr, arith, length-append}
use Rattle.image.specs.Faults.{fault_number, fault_place}
use Rattle.image.specs.Image.{image, image_length, body}
use Rattle.image.specs.Opened.{opened}
use Rattle.image.specs.declared.fault.ImageFault.{ImageFault}
use Rattle.image_store.specs.Loads.{bytes_of, lost, first_lost, unless_lost, Whole, store_opened, seed_and_count_told, cells_left, ReadsStore}
use Rattle.kinds.specs.Kinds.{KeyKind, ValueKind}
use Rattle.kinds.specs.declared.record.Record.{Record}
use Rattle.layout.specs.Tests.{lowest}
use Rattle.maps.specs.Maps.{Kinds, kinds_of, Contents, contents}
use Rattle.model.specs.Blocks as Blocks
use Rattle.model.specs.Faults.{Fault, fault_at}
use Rattle.model.specs.Refusals.{begin_refusal}
use Rattle.model.specs.Setups.{Shows}
use Rattle.model.specs.Worlds.{Store}
use Rattle.model.proofs.Refusals.{not_refused}
use Rattle.store.specs.Answers.{Answer, told}
use Rattle.store.specs.Places.{Place}
use Rattle.store.specs.declared.fault.BlockFault.{Ghosts as FaultWords}
use Rattle.contents.specs.Faults.{told as told_by}
use Rattle.contents.specs.Finds.{Finds, reading}
use Rattle.contents.specs.Readings.{FoundIn}
use Rattle.contents.specs.Setups.{image_bytes, setup}
use Rattle.contents.specs.declared.fault.RegisterFault.{RegisterFault}
use Rattle.contents.specs.declared.fault.RegisterFault.TheVariants.{Image}
use Rattle.contents.proofs.Retold.{lift, same_number, same_place, opened_lifts}

-- the bytes of a store, and its lowest unreadable block, are said twice
same_bytes : (ps : List Place) → bytes_of ps ≡ Blocks.bytes_of ps
same_bytes [] = refl
same_bytes (None ∷ ps) = same_bytes ps
same_bytes (Some b ∷ ps) = ap (λ bs. b ++ bs) (same_bytes ps)

lowest_lost : (ps : List Place) (t : ℕ → Bool) (k : ℕ) → ((i : ℕ) → t (k + i) ≡ lost ps i) → lowest t k (length ps) ≡ Blocks.unreadable k ps
lowest_lost [] t k h = refl
lowest_lost (None ∷ ps) t k h = ap (λ b. cond b (Some k) (lowest t (k + 1) (length ps))) (ap t (omega arith) ∙ h 0)
lowest_lost (Some b ∷ ps) t k h =
    ap (λ b. cond b (Some k) (lowest t (k + 1) (length ps))) (ap t (omega arith) ∙ h 0)
    ∙ lowest_lost ps t (k + 1) (λ i. ap t (omega arith) ∙ h (suc i))
    ∙ ap (λ (n : ℕ). Blocks.unreadable n ps) (omega arith)

same_lost : (ps : List Place) → first_lost ps ≡ Blocks.unreadable 0 ps
same_lost ps = lowest_lost ps (lost ps) 0 (λ i. ap (lost ps) (omega arith))

take_front : (b bs : List ℕ) (n : ℕ) → length b ≡ n → take n (b ++ bs) ≡ b
take_front [] bs n e = ap (λ (k : ℕ). take k bs) (sym e)
take_front (a ∷ b) bs n e = ap (λ (k : ℕ). take k (a ∷ (b ++ bs))) (sym e) ∙ ap (λ zs. a ∷ zs) (take_front b bs (length b) refl)

drop_front : (b bs : List ℕ) (n : ℕ) → length b ≡ n → drop n (b ++ bs) ≡ bs
drop_front [] bs n e = ap (λ (k : ℕ). drop k bs) (sym e)
drop_front (a ∷ b) bs n e = ap (λ (k : ℕ). drop k (a ∷ (b ++ bs))) (sym e) ∙ drop_front b bs (length b) refl

-- whole blocks are those of their bytes
blocks_bytes : (ps : List Place) → Whole ps → Blocks.blocks_of (length ps) (bytes_of ps) ≡ ps
blocks_bytes [] w = refl
blocks_bytes (None ∷ ps) w = absurd w
blocks_bytes (Some b ∷ ps) w =
    let p = take_front b (bytes_of ps) 32 w.0 in
    let q = ap (Blocks.blocks_of (length ps)) (drop_front b (bytes_of ps) 32 w.0) ∙ blocks_bytes ps w.1 in
    λ i. Some (p i) ∷ q i

length_bytes : (ps : List Place) → Whole ps → length (bytes_of ps) ≡ 32 * length ps
length_bytes [] w = refl
length_bytes (None ∷ ps) w = absurd w
length_bytes (Some b ∷ ps) w = let r = length_bytes ps w.1 in let l = w.0 in length-append b (bytes_of ps) ∙ omega arith

-- a refusal gives nothing, so it is one of any type
abbrev refusal : {A B : Type 0} → Answer B → Answer A → Answer B
refusal b (Answer.given a) = b
refusal b (Answer.refused n p) = Answer.refused n p

-- a refusal that is told of the store
found_by : {F K Row V : Type 0} (x : Kinds K Row V) (number block : F → ℕ) (n : ℕ) (f : ImageFault F) (cells : List (Option (Record Row V))) (a : Answer (Contents K V))
    → Answer.refused (fault_number number f) (fault_place block f) ≡ seed_and_count_told x a → cells ≡ cells_left x n a
    → (a ≡ Answer.refused (fault_number number f) (fault_place block f)) × (cells ≡ replicate n None)
found_by x number block n f cells (Answer.given h) e q = let z : ◌≡◌ {A = ℕ} 0 1 = cc in absurd (omega arith)
found_by x number block n f cells (Answer.refused m p) e q = (ap (refusal (Answer.refused m p)) (sym e), q)

pub refused_found : {F K Row V : Type 0} (x : Kinds K Row V) (w : FaultWords F) (shown : List Place) (n : ℕ) (f : ImageFault F) (r : Result (ℕ × ℕ) (RegisterFault F)) (cells : List (Option (Record Row V)))
    → r ≡ Err (Image f)
    → Answer.refused (fault_number w.number f) (fault_place w.block f) ≡ seed_and_count_told x (store_opened x w.number w.block shown) → cells ≡ cells_left x n (store_opened x w.number w.block shown)
    → FoundIn x w shown n r cells
refused_found x w shown n f r cells e answer left =
    subst (λ r. FoundIn x w shown n r cells) (sym e) (found_by x w.number w.block n f cells (store_opened x w.number w.block shown) answer left)

-- an answer's refusal
abbrev fault_told : {A : Type 0} → Answer A → Option Fault
fault_told (Answer.given a) = None
fault_told (Answer.refused n p) = Some (fault_at n p)

module _ {K Row V : Type 0} (k : KeyKind K Row) (v : ValueKind V) where
  abbrev x : Kinds K Row V
  x = kinds_of k v

  -- what is wrong with bytes
  abbrev in_bytes : List ℕ → Option Fault
  in_bytes bs = Blocks.fault_of (image_bytes x).fault (opened x bs)

  -- what is wrong is what the store is refused with
  pub same_wrong : {F : Type 0} (number block : F → ℕ) (shown : List Place) → (setup k v).codec.wrong shown ≡ fault_told (store_opened x number block shown)
  same_wrong {F} number block shown =
      ap (λ o. Blocks.unless_unreadable o (in_bytes (Blocks.bytes_of shown))) (sym (same_lost shown))
      ∙ ap (λ bs. Blocks.unless_unreadable (first_lost shown) (in_bytes bs)) (sym (same_bytes shown))
      ∙ by_lost (first_lost shown)
    where
      by_opened : (r : Result (Contents K V) (ImageFault ⊥)) → Blocks.fault_of (image_bytes x).fault r ≡ fault_told (told (fault_number number) (fault_place block) (lift {F = F} r))
      by_opened (Ok h) = refl
      by_opened (Err f) = let n = same_number number f in let p = same_place block f in λ i. Some (fault_at (sym n i) (sym p i))

      by_lost : (o : Option ℕ) → Blocks.unless_unreadable o (in_bytes (bytes_of shown)) ≡ fault_told (unless_lost o (told (fault_number number) (fault_place block) (opened {F = F} x (bytes_of shown))))
      by_lost (Some i) = refl
      by_lost None = by_opened (opened x (bytes_of shown)) ∙ ap (λ r. fault_told (told (fault_number number) (fault_place block) r)) (sym (opened_lifts F x (bytes_of shown)))

  fits : (n : ℕ) (h : Contents K V) → length (image x n h) ≡ n → image_length x h ≤ n
  unfolding image
  fits n h e = let l = length-append (body x h) (replicate (n - image_length x h) 0) in omega (arith, l, e)

  -- a store that is read is one that shows the image
  pub shows : (E : Type 0) (count : ℕ) (shown : List Place) (p : ℕ × ℕ) (cells : _) → length shown ≡ count → (r : ReadsStore x {E = E} shown (Ok p) cells) → Shows (setup k v) count shown (contents p.0 r.2.0)
  shows E count shown p cells size r =
      let h = contents p.0 r.2.0 in
      let l : length (bytes_of shown) ≡ 32 * count = length_bytes shown r.1 ∙ ap (λ (n : ℕ). 32 * n) size in
      let is : bytes_of shown ≡ image x (32 * count) h = r.2.3 ∙ ap (λ (n : ℕ). image x n h) l in
      record {
        lawful = r.2.1.lawful;
        fits = fits (32 * count) h (ap length (sym is) ∙ l);
        image = sym (blocks_bytes shown r.1) ∙ ap (λ (n : ℕ). Blocks.blocks_of n (bytes_of shown)) size ∙ ap (Blocks.blocks_of count) is;
      }

module _ {F K Row V : Type 0} (k : KeyKind K Row) (v : ValueKind V) (w : FaultWords F) (s : Store)
    (cells cells' : List (Option (Record Row V))) (work work' : List ℕ) where
  -- a reading of a store that is read
  pub finds : None ≡ begin_refusal s.count (length cells) (length work) → work' ≡ replicate (length work) 0 → length s.shown ≡ s.count
      → (r : Result (ℕ × ℕ) (RegisterFault F)) → FoundIn (kinds_of k v) w s.shown (length cells) r cells'
      → Finds (setup k v) s cells work (reading w r cells' work')
  finds free cleared size (Ok p) found =
      let n = found.2.2 in
      let laid = found.2.1.is in
      not_refused _ _ free (inl (
        contents p.0 found.2.0,
        shows k v (RegisterFault F) s.count s.shown p cells' size found,
        λ i. record { answer = Ok (p.0, n i); cells = laid i; work = cleared i },
      ))
  finds free cleared size (Err f) found =
      let empty = found.1 in
      not_refused _ _ free (inr (
        told_by w f,
        same_wrong k v w.number w.block s.shown ∙ ap fault_told found.0,
        λ i. record { answer = Err (told_by w f); cells = empty i; work = cleared i },
      ))

-- what is cloned from an empty cell is one
pub none_cloned : {A : Type 0} (P : Option A → Type 0) → ((a : A) → P (Some a) → ⊥) → (cell : Option A) → P cell → cell ≡ None
none_cloned P never None p = refl
none_cloned P never (Some a) p = absurd (never a p)
