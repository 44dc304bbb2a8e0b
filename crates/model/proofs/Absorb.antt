-- Operations that commute, and of which doing one again changes nothing: the order and the repeats of a list do not matter.
use Rattle.std.proofs.Common.{◌≡◌, ◌↔◌, List, [], ◌∷◌, ◌++◌, sym, refl, ap, ◌∙◌, inl, inr}
use Rattle.layout.specs.Orders.{In}

abbrev pub do_all : {A M : Type 0} → (A → M → M) → List A → M → M
do_all f [] m = m
do_all f (a ∷ xs) m = do_all f xs (f a m)

pub do_all-++ : {A M : Type 0} (f : A → M → M) (xs bs : List A) (m : M) → do_all f (xs ++ bs) m ≡ do_all f bs (do_all f xs m)
do_all-++ f [] bs m = refl
do_all-++ f (a ∷ xs) bs m = do_all-++ f xs bs (f a m)

module _ {A M : Type 0} (f : A → M → M) (swap : (a b : A) (m : M) → f a (f b m) ≡ f b (f a m)) (again : (a : A) (m : M) → f a (f a m) ≡ f a m) where
  -- what is in the list may as well be done first
  one : (a : A) (xs : List A) (m : M) → In a xs → do_all f xs (f a m) ≡ do_all f xs m
  one a [] m i = absurd i
  one a (b ∷ xs) m (inl e) = ap (do_all f xs) (ap (λ (c : A). f b (f c m)) (sym e) ∙ again b m)
  one a (b ∷ xs) m (inr i) = ap (do_all f xs) (swap b a m) ∙ one a xs (f b m) i

  through : (a : A) (bs : List A) (m : M) → do_all f bs (f a m) ≡ f a (do_all f bs m)
  through a [] m = refl
  through a (b ∷ bs) m = ap (do_all f bs) (swap b a m) ∙ through a bs (f b m)

  exchange : (xs bs : List A) (m : M) → do_all f bs (do_all f xs m) ≡ do_all f xs (do_all f bs m)
  exchange [] bs m = refl
  exchange (a ∷ xs) bs m = exchange xs bs (f a m) ∙ ap (do_all f xs) (through a bs m)

  absorbs : (xs bs : List A) (m : M) → ((a : A) → In a xs → In a bs) → do_all f bs (do_all f xs m) ≡ do_all f bs m
  absorbs [] bs m h = refl
  absorbs (a ∷ xs) bs m h = absorbs xs bs (f a m) (λ c i. h c (inr i)) ∙ one a bs m (h a (inl refl))

  pub same_all : (xs bs : List A) (m : M) → ((a : A) → In a xs ↔ In a bs) → do_all f xs m ≡ do_all f bs m
  same_all xs bs m h =
      sym (absorbs bs xs m (λ a i. (h a).1 i)) ∙ sym (exchange xs bs m) ∙ absorbs xs bs m (λ a i. (h a).0 i)
