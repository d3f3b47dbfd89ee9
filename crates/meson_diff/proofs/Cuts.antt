-- A text is its first line and the lines behind it.
use Rattle.std.proofs.Common.{◌≡◌, ℕ, suc, ◌+◌, ◌<◌, true, false, not, cond, List, [], ◌∷◌, ◌++◌, length, take, drop, min, Some, None, refl, ap, ap₂, subst, sym, ◌||◌, ◌∙◌, add-one, one-add, arith}
use Rattle.std.specs.Prelude.{◌==◌, nat_lt, position}
use Rattle.std.specs.List.{concat, list_any, onto_first, position_or_len}
use Rattle.std.proofs.lemmas.Bool.{eqb-true, ltb-false, ltb-true}
use Rattle.std.proofs.lemmas.List.{append_assoc, drop_min, take_min}
use Rattle.meson_diff.specs.Laws.{AreLines, LinesAreTheText, ended, no_lines, unended}
use Rattle.meson_diff.specs.Lines.{line_len, lines}

-- how many bytes stand before the first line feed
abbrev feed : List ℕ → ℕ
feed text = position_or_len (λ b. b == 10) text

cut_longer : (b : ℕ) (text : List ℕ) (k n : ℕ) → n ≡ suc k → lines text ≡ take (suc k) text ∷ lines (drop (suc k) text)
    → onto_first b (lines text) ≡ take (suc n) (b ∷ text) ∷ lines (drop (suc n) (b ∷ text))
cut_longer b text k n e h =
    ap (onto_first b) h ∙ ap (λ m. take (suc m) (b ∷ text) ∷ lines (drop (suc m) (b ∷ text))) (sym e)

lines_cut : (b : ℕ) (text : List ℕ) → lines (b ∷ text) ≡ take (suc (feed (b ∷ text))) (b ∷ text) ∷ lines (drop (suc (feed (b ∷ text))) (b ∷ text))
lines_cut b [] =
    elim (b == 10) as (λ t. cond t ((b ∷ []) ∷ []) (onto_first b []) ≡ take (suc (cond (not t) (1 + 0) 0)) (b ∷ []) ∷ lines (drop (suc (cond (not t) (1 + 0) 0)) (b ∷ [])))
    [ true ↦ refl | false ↦ refl ]
lines_cut b (c ∷ more) =
    elim (b == 10) as (λ t. cond t ((b ∷ []) ∷ lines (c ∷ more)) (onto_first b (lines (c ∷ more)))
    ≡ take (suc (cond (not t) (1 + feed (c ∷ more)) 0)) (b ∷ c ∷ more) ∷ lines (drop (suc (cond (not t) (1 + feed (c ∷ more)) 0)) (b ∷ c ∷ more)))
    [ true ↦ refl | false ↦ cut_longer b (c ∷ more) (feed (c ∷ more)) (1 + feed (c ∷ more)) (one-add (feed (c ∷ more))) (lines_cut c more) ]

lines_first : (text : List ℕ) → 0 < length text → lines text ≡ take (line_len text) text ∷ lines (drop (line_len text) text)
lines_first [] h = absurd (omega arith)
lines_first (b ∷ text) h =
    let whole = b ∷ text in
    let n = feed whole + 1 in
    lines_cut b text
    ∙ ap (λ k. take k whole ∷ lines (drop k whole)) (sym (add-one (feed whole)))
    ∙ ap (λ l. l ∷ lines (drop n whole)) (sym (take_min n whole))
    ∙ ap (λ rest. take (line_len whole) whole ∷ lines rest) (sym (drop_min n whole))

-- ---- the code that finds it

pub len_fed : (text : List ℕ) (at : ℕ) → position (λ b. b == 10) text ≡ Some at → at + 1 ≡ line_len text
len_fed text at h =
    (elim (nat_lt (feed text) (length text)) as (λ b. nat_lt (feed text) (length text) ≡ b → cond b (Some (feed text)) None ≡ Some at → at + 1 ≡ min (feed text + 1) (length text)) [
      | true ↦ λ less found. let same : feed text ≡ at = cc in let below = ltb-true (feed text) (length text) less in omega arith
      | false ↦ λ less found. absurd (let no : ⊥ = cc in no)
    ]) refl h

pub len_unfed : (text : List ℕ) → position (λ b. b == 10) text ≡ None → length text ≡ line_len text
len_unfed text h =
    (elim (nat_lt (feed text) (length text)) as (λ b. nat_lt (feed text) (length text) ≡ b → cond b (Some (feed text)) None ≡ None → length text ≡ min (feed text + 1) (length text)) [
      | true ↦ λ less found. absurd (let no : ⊥ = cc in no)
      | false ↦ λ less found. let past = ltb-false (feed text) (length text) less in omega arith
    ]) refl h

-- one more line is cut off
pub lines_more : (all these : List (List ℕ)) (rest line left : List ℕ) (n : ℕ) → n ≡ line_len rest → 0 < length rest → these ≡ all ++ line ∷ []
    → line ≡ take n rest → left ≡ drop n rest → these ++ lines left ≡ all ++ lines rest
lines_more all these rest line left n e h pushed is_line is_left =
    ap (λ l. l ++ lines left) pushed
    ∙ append_assoc all (line ∷ []) (lines left)
    ∙ ap₂ (λ a b. all ++ a ∷ lines b) is_line is_left
    ∙ ap (λ k. all ++ take k rest ∷ lines (drop k rest)) e
    ∙ ap (λ ls. all ++ ls) (sym (lines_first rest h))

-- ---- the lines join to the text

concat-onto_first : (b : ℕ) (these : List (List ℕ)) → concat (onto_first b these) ≡ b ∷ concat these
concat-onto_first b [] = refl
concat-onto_first b (line ∷ these) = refl

pub concat-lines : (text : List ℕ) → concat (lines text) ≡ text
concat-lines [] = refl
concat-lines (b ∷ text) =
    elim (b == 10) as (λ t. concat (cond t ((b ∷ []) ∷ lines text) (onto_first b (lines text))) ≡ b ∷ text) [
      | true ↦ ap (λ more. b ∷ more) (concat-lines text)
      | false ↦ concat-onto_first b (lines text) ∙ ap (λ more. b ∷ more) (concat-lines text)
    ]

-- ---- what a line is

onto_line : (b : ℕ) (these : List (List ℕ)) → (b == 10) ≡ false → AreLines these → AreLines (onto_first b these)
onto_line b _ other no_lines = unended b [] (ap (λ t. t || false) other)
onto_line b _ other (unended c line none) = unended b (c ∷ line) (ap (λ t. t || list_any (λ x. x == 10) (c ∷ line)) other ∙ none)
onto_line b _ other (ended line more none rest) = ended (b ∷ line) more (ap (λ t. t || list_any (λ x. x == 10) line) other ∙ none) rest

are_lines : (text : List ℕ) → AreLines (lines text)
are_lines [] = no_lines
are_lines (b ∷ text) =
    (elim (b == 10) as (λ t. (b == 10) ≡ t → AreLines (cond t ((b ∷ []) ∷ lines text) (onto_first b (lines text)))) [
      | true ↦ λ feed. subst (λ c. AreLines ((c ∷ []) ∷ lines text)) (sym (eqb-true b 10 feed)) (ended [] (lines text) refl (are_lines text))
      | false ↦ λ other. onto_line b (lines text) other (are_lines text)
    ]) refl

pub lines_are_the_text : LinesAreTheText
lines_are_the_text text = (are_lines text, concat-lines text)
