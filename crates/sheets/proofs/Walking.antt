-- a sheet of commands, one after the other
use Rattle.std.proofs.Common.{◌≡◌, ℕ, suc, ◌+◌, ◌<◌, ◌≤◌, List, [], ◌∷◌, ◌++◌, length, get_or, take, drop, set, replicate, None, Option, sym, refl, ap, ◌∙◌, subst, append_assoc, arith}
use Rattle.std.proofs.lemmas.List.{take_more, take_all, drop_more, set_at, length-take-le}
use Rattle.kinds.specs.declared.record.Record.{Record}
use Rattle.maps.specs.Commands.{answer_to, map_after, answers_to, map_after_sheet}
use Rattle.maps.specs.Maps.{Kinds, Laid}
use Rattle.maps.specs.declared.Answer.{Answer}
use Rattle.maps.specs.declared.Command.{Command}
use Rattle.table.specs.Runs.{Does}
use Rattle.sheets.specs.Sheets.{RunsAll}

module _ {K Row V : Type 0} (x : Kinds K Row V) where
  -- one command more
  pub map_more : (cs : List (Command Row V)) (c : Command Row V) (m : List (Record K V)) → map_after_sheet x (cs ++ c ∷ []) m ≡ map_after x c (map_after_sheet x cs m)
  unfolding map_after_sheet
  map_more [] c m = refl
  map_more (b ∷ cs) c m = map_more cs c (map_after x b m)

  pub answers_more : (cs : List (Command Row V)) (c : Command Row V) (m : List (Record K V))
      → answers_to x (cs ++ c ∷ []) m ≡ answers_to x cs m ++ answer_to x c (map_after_sheet x cs m) ∷ []
  unfolding answers_to map_after_sheet
  answers_more [] c m = refl
  answers_more (b ∷ cs) c m = ap (λ (rest : List (Answer V)). answer_to x b m ∷ rest) (answers_more cs c (map_after x b m))

  pub answers_count : (cs : List (Command Row V)) (m : List (Record K V)) → length (answers_to x cs m) ≡ length cs
  unfolding answers_to
  answers_count [] m = refl
  answers_count (c ∷ cs) m = ap suc (answers_count cs (map_after x c m))

  -- the first i commands have run
  pub record Walked (seed count : ℕ) (cells₀ : List (Option (Record Row V))) (answers₀ : List (Answer V)) (sheet : List (Command Row V)) (i held : ℕ) (cells : List (Option (Record Row V))) (answers : List (Answer V)) : Type 0 where
    pub laid : (m : List (Record K V)) → Laid x seed m cells₀ → count ≡ length m → Laid x seed (map_after_sheet x (take i sheet) m) cells
    pub counted : (m : List (Record K V)) → Laid x seed m cells₀ → count ≡ length m → held ≡ length (map_after_sheet x (take i sheet) m)
    pub told : (m : List (Record K V)) → Laid x seed m cells₀ → count ≡ length m → answers ≡ answers_to x (take i sheet) m ++ drop i answers₀

  module _ (seed count : ℕ) (cells₀ : List (Option (Record Row V))) (answers₀ : List (Answer V)) (sheet : List (Command Row V)) where
    pub walk_start : Walked seed count cells₀ answers₀ sheet 0 count cells₀ answers₀
    unfolding answers_to map_after_sheet
    walk_start = record { laid = λ m h n. h; counted = λ m h n. n; told = λ m h n. refl }

    pub walk_on : (i held : ℕ) (cells : List (Option (Record Row V))) (answers : List (Answer V)) → Walked seed count cells₀ answers₀ sheet i held cells answers
        → i < length sheet → length sheet ≤ length answers₀ → (c : Command Row V) → c ≡ get_or sheet i c → (cells' : List (Option (Record Row V))) (r : Answer V × ℕ)
        → Does x seed held (λ m. map_after x c m) (λ m. answer_to x c m) cells cells' r
        → (answers' : List (Answer V)) → answers' ≡ set answers i r.0 → Walked seed count cells₀ answers₀ sheet (i + 1) r.1 cells' answers'
    walk_on i held cells answers w l room c is cells' r does answers' new =
        record {
          laid = λ m h n. subst (λ (t : List (Record K V)). Laid x seed t cells') (sym (after m)) (d m h n).0;
          counted = λ m h n. (d m h n).2 ∙ ap length (sym (after m));
          told = λ m h n. new ∙ written m (d m h n).1 (w.told m h n);
        }
      where
        more : take (i + 1) sheet ≡ take i sheet ++ c ∷ []
        more = take_more sheet i c l ∙ ap (λ (t : Command Row V). take i sheet ++ t ∷ []) (sym is)

        after : (m : List (Record K V)) → map_after_sheet x (take (i + 1) sheet) m ≡ map_after x c (map_after_sheet x (take i sheet) m)
        after m = ap (λ (t : List (Command Row V)). map_after_sheet x t m) more ∙ map_more (take i sheet) c m

        d : (m : List (Record K V)) → Laid x seed m cells₀ → count ≡ length m
            → Laid x seed (map_after x c (map_after_sheet x (take i sheet) m)) cells' × (r.0 ≡ answer_to x c (map_after_sheet x (take i sheet) m)) × (r.1 ≡ length (map_after x c (map_after_sheet x (take i sheet) m)))
        d m h n = does (map_after_sheet x (take i sheet) m) (w.laid m h n) (w.counted m h n)

        written : (m : List (Record K V)) → r.0 ≡ answer_to x c (map_after_sheet x (take i sheet) m) → answers ≡ answers_to x (take i sheet) m ++ drop i answers₀
            → set answers i r.0 ≡ answers_to x (take (i + 1) sheet) m ++ drop (i + 1) answers₀
        written m a e =
            let told : List (Answer V) = answers_to x (take i sheet) m in
            let long : length told ≡ i = answers_count (take i sheet) m ∙ length-take-le i sheet (omega arith) in
            ap (λ (t : List (Answer V)). set t i r.0) (e ∙ ap (λ (t : List (Answer V)). told ++ t) (drop_more answers₀ i r.0 (omega arith)))
            ∙ set_at told (get_or answers₀ i r.0) (drop (i + 1) answers₀) r.0 i long
            ∙ sym (append_assoc told (r.0 ∷ []) (drop (i + 1) answers₀))
            ∙ ap (λ (t : List (Answer V)). t ++ drop (i + 1) answers₀) (ap (λ (t : Answer V). told ++ t ∷ []) a ∙ sym (answers_more (take i sheet) c m) ∙ ap (λ (t : List (Command Row V)). answers_to x t m) (sym more))

    pub walk_end : (i held : ℕ) (cells : List (Option (Record Row V))) (answers : List (Answer V)) → Walked seed count cells₀ answers₀ sheet i held cells answers
        → length sheet ≤ i → i ≤ length sheet → (scratch : List (Option (Record Row V))) → scratch ≡ replicate (length scratch) None → RunsAll x seed count sheet cells₀ answers₀ held cells scratch answers
    walk_end i held cells answers w done inside scratch empty m h n =
        let all : take i sheet ≡ sheet = take_all i sheet done in
        let e : i ≡ length sheet = omega arith in
        record {
          laid = subst (λ (t : List (Command Row V)). Laid x seed (map_after_sheet x t m) cells) all (w.laid m h n);
          counted = w.counted m h n ∙ ap (λ (t : List (Command Row V)). length (map_after_sheet x t m)) all;
          emptied = empty;
          told = w.told m h n ∙ ap (λ (t : List (Command Row V)). answers_to x t m ++ drop i answers₀) all ∙ ap (λ (k : ℕ). answers_to x sheet m ++ drop k answers₀) e;
        }

  -- said of what was lent, and of what the lender finds
  pub as_lent : {seed seed' count count' held held' : ℕ} {sheet : List (Command Row V)} {lent lent' cells cells' scratch scratch' : List (Option (Record Row V))} {before after : List (Answer V)}
      → RunsAll x seed count sheet lent before held cells scratch after → seed ≡ seed' → count ≡ count' → lent ≡ lent' → held' ≡ held → cells' ≡ cells → scratch' ≡ scratch
      → RunsAll x seed' count' sheet lent' before held' cells' scratch' after
  as_lent {seed = seed} {seed' = seed'} {count = count} {count' = count'} {held = held} {held' = held'} {sheet = sheet} {lent = lent} {lent' = lent'} {cells = cells} {cells' = cells'} {scratch = scratch} {scratch' = scratch'} {before = before} {after = after} r a b c d e f =
      subst (λ (k : ℕ). RunsAll x k count' sheet lent' before held' cells' scratch' after) a
      (subst (λ (k : ℕ). RunsAll x seed k sheet lent' before held' cells' scratch' after) b
      (subst (λ (t : List (Option (Record Row V))). RunsAll x seed count sheet t before held' cells' scratch' after) c
      (subst (λ (k : ℕ). RunsAll x seed count sheet lent before k cells' scratch' after) (sym d)
      (subst (λ (t : List (Option (Record Row V))). RunsAll x seed count sheet lent before held t scratch' after) (sym e)
      (subst (λ (t : List (Option (Record Row V))). RunsAll x seed count sheet lent before held cells t after) (sym f) r)))))
