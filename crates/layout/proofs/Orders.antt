-- strict orders of keys
use Rattle.std.proofs.Common.{◌≡◌, true, false, List, [], ◌∷◌, refl, subst, inl, inr}
use Rattle.std.proofs.lemmas.Bool.{cases_Bool, both_ways}
use Rattle.layout.specs.Orders.{Order, Ordered, In, All}

pub all_in : {R : Type 0} (P : R → Type 0) (xs : List R) (x : R) → All P xs → In x xs → P x
all_in P [] x a i = absurd i
all_in P (y ∷ ys) x a (inl e) = subst P e a.0
all_in P (y ∷ ys) x a (inr i) = all_in P ys x a.1 i

pub all_from_in : {R : Type 0} (P : R → Type 0) (xs : List R) → ((x : R) → In x xs → P x) → All P xs
all_from_in P [] h = tt
all_from_in P (x ∷ xs) h = (h x (inl refl), all_from_in P xs (λ y i. h y (inr i)))

-- three ways for two keys
pub data Three {R Key : Type 0} (O : Order R Key) (a b : Key) : Type 0 where
  less : O.before a b ≡ true → O.before b a ≡ false → Three O a b
  more : O.before b a ≡ true → O.before a b ≡ false → Three O a b
  same : a ≡ b → O.before a b ≡ false → O.before b a ≡ false → Three O a b

module _ {R Key : Type 0} (O : Order R Key) (L : Ordered O) where
  pub irrefl : (k : Key) → O.before k k ≡ true → ⊥
  irrefl k h = both_ways (O.before k k) (L.irreflexive k) h

  pub asym : (a b : Key) → O.before a b ≡ true → O.before b a ≡ true → ⊥
  asym a b h g = irrefl a (L.transitive a b a h g)

  pub not_before : (a b : Key) → (O.before a b ≡ true → ⊥) → O.before a b ≡ false
  not_before a b h = elim (cases_Bool (O.before a b)) [ inl t ↦ absurd (h t) | inr f ↦ f ]

  pub three : (a b : Key) → Three O a b
  three a b =
      elim (cases_Bool (O.before a b)) [
        | inl t ↦ less t (not_before b a (λ u. asym a b t u))
        | inr f ↦ elim (cases_Bool (O.before b a)) [
          | inl u ↦ more u f
          | inr g ↦ same (L.total a b f g) f g
        ]
      ]
