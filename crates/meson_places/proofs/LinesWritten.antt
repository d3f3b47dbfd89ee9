-- What is written for an assigned value is an expression on a line of its own.
use Rattle.std.proofs.Common.{◌≡◌, ℕ, Bool, true, false, List, [], ◌∷◌, ◌++◌, refl, sym, ap, ◌∙◌, subst, inl, inr}
use Rattle.std.specs.Prelude.{nat_eq, not, ◌||◌}
use Rattle.std.specs.List.{list_any}
use Rattle.meson_lex.specs.Items.{Lexeme, joined, AreItems}
use Rattle.meson_lex.specs.Kinds.{IsLineEnd, OfKind}
use Rattle.meson_lex.specs.Significant.{Word, Role, Gap, Ends, Opens, Closes, Other, role, start, emit_by, emitted}
use Rattle.meson_lex.specs.Words.{speaks, spoken_by, spoken, word, IsTight}
use Rattle.meson_syntax.specs.Grammar.{expression_words}
use Rattle.meson_edit.specs.Lines.{HasNoLineEnd}
use Rattle.meson_edit.specs.Places.{IsWritten, IsWrittenStatement}
use Rattle.meson_edit.proofs.exchange.Standing.{line-text}
use Rattle.meson_steps.specs.declared.given.Given.{Given}
use Rattle.meson_steps.specs.declared.given.Given.TheVariants as given
use Rattle.meson_steps.specs.GivenWords.{MayBeGiven}
use Rattle.meson_steps.specs.Code.{IsValue}
use Rattle.meson_places.specs.AssignedArrays.{is_line}
use Rattle.meson_places.specs.AssignedValues.{is_one_line}
use Rattle.meson_places.specs.Values.{given_bytes, given_node}
use Rattle.meson_places.proofs.GivenWritten.{given_written}

-- ---- without a line feed

is_feed : ℕ → Bool
is_feed b = nat_eq b 10

any_left : (test : ℕ → Bool) (xs ys : List ℕ) → list_any test (xs ++ ys) ≡ false → list_any test xs ≡ false
any_left test [] ys h = refl
any_left test (x ∷ xs) ys h = go (test x) h (any_left test xs ys)
  where
    go : (b : Bool) → (b || list_any test (xs ++ ys)) ≡ false → (list_any test (xs ++ ys) ≡ false → list_any test xs ≡ false) → (b || list_any test xs) ≡ false
    go true h more = h
    go false h more = more h

any_right : (test : ℕ → Bool) (xs ys : List ℕ) → list_any test (xs ++ ys) ≡ false → list_any test ys ≡ false
any_right test [] ys h = h
any_right test (x ∷ xs) ys h = go (test x) h (any_right test xs ys)
  where
    go : (b : Bool) → (b || list_any test (xs ++ ys)) ≡ false → (list_any test (xs ++ ys) ≡ false → list_any test ys ≡ false) → list_any test ys ≡ false
    go true h more = absurd cc
    go false h more = more h

no_line_end : (text : List ℕ) → list_any (λ b. nat_eq b 10) text ≡ false → IsLineEnd text → ⊥
no_line_end text h (inl e) = let no : true ≡ false = ap (list_any (λ b. nat_eq b 10)) (sym e) ∙ h in absurd cc
no_line_end text h (inr e) = let no : true ≡ false = ap (list_any (λ b. nat_eq b 10)) (sym e) ∙ h in absurd cc

no_lines : (xs : List Lexeme) (rest : List ℕ) → AreItems xs rest → list_any (λ b. nat_eq b 10) (joined xs) ≡ false → HasNoLineEnd xs
no_lines [] rest are h = tt
no_lines (x ∷ xs) rest are h = (
  λ is. no_line_end x.text (any_left (λ b. nat_eq b 10) x.text (joined xs) h) (subst (λ κ. OfKind κ x.text) is are.0.0),
  no_lines xs rest are.1 (any_right (λ b. nat_eq b 10) x.text (joined xs) h),
)

not_any : (b : Bool) → not b ≡ true → b ≡ false
not_any true h = absurd cc
not_any false h = refl

-- ---- one token

speaks_by : (r : Role) (w : Word) → speaks r ≡ true → (spoken_by r w ≡ w ∷ []) × (emit_by r start w ≡ w ∷ [])
speaks_by Gap w h = absurd cc
speaks_by Ends w h = absurd cc
speaks_by Opens w h = (refl, refl)
speaks_by Closes w h = (refl, refl)
speaks_by Other w h = (refl, refl)

spoken_back : (front : List Lexeme) (x : Lexeme) → speaks (role x.kind) ≡ true → spoken (front ++ x ∷ []) ≡ [] → ⊥
spoken_back [] x h is = let said : word x ∷ [] ≡ [] = sym (ap (λ ws. ws ++ []) (speaks_by (role x.kind) (word x) h).0) ∙ is in absurd cc
spoken_back (y ∷ front) x h is = spoken_back front x h (drop (spoken_by (role y.kind) (word y)) is)
  where
    drop : (ws : List Word) → ws ++ spoken (front ++ x ∷ []) ≡ [] → spoken (front ++ x ∷ []) ≡ []
    drop [] e = e
    drop (w ∷ ws) e = absurd cc

one_item : (items : List Lexeme) (t : IsTight items) (w : Word) → spoken items ≡ w ∷ [] → emitted start items ≡ w ∷ []
one_item items t w is = go t.front t.ends
  where
    x : Lexeme
    x = t.last

    go : (front : List Lexeme) → items ≡ front ++ t.last ∷ [] → emitted start items ≡ w ∷ []
    go [] ends =
        let s = speaks_by (role t.last.kind) (word t.last) t.last_speaks in
        ap (emitted start) ends ∙ ap (λ ws. ws ++ []) s.1 ∙ sym (ap (λ ws. ws ++ []) s.0) ∙ ap spoken (sym ends) ∙ is
    go (y ∷ front) ends =
        let first : t.first ∷ t.more ≡ y ∷ (front ++ t.last ∷ []) = sym t.begins ∙ ends in
        let more : t.more ≡ front ++ t.last ∷ [] = cc in
        let said : word t.first ∷ spoken t.more ≡ w ∷ [] = sym (ap (λ ws. ws ++ spoken t.more) (speaks_by (role t.first.kind) (word t.first) t.first_speaks).0) ∙ ap spoken (sym t.begins) ∙ is in
        let none : spoken t.more ≡ [] = cc in
        absurd (spoken_back front t.last t.last_speaks (ap spoken (sym more) ∙ none))

pub one_written : (bytes : List ℕ) (w : Word) → IsWritten bytes (w ∷ []) → IsWrittenStatement bytes (w ∷ [])
one_written bytes w x = record {
  text = record { items = x.items; are_items = x.is_new.are_items; is_words = one_item x.items x.is_new.tight w x.is_words; tight = x.is_new.tight };
  utf8 = x.utf8;
}

-- ---- a value without a line feed

pub value_line : (text : List ℕ) (x : IsValue text) → is_line text ≡ true → IsWrittenStatement text (expression_words x.node)
value_line text x line =
    let w = x.writes in
    let none : list_any (λ b. nat_eq b 10) (joined w.items) ≡ false = ap (list_any (λ b. nat_eq b 10)) w.is_new.are_items.joins ∙ not_any (list_any (λ b. nat_eq b 10) text) line in
    record {
      text = line-text text w.items w.is_new.are_items (no_lines w.items [] w.is_new.are_items.each none) w.is_new.tight (expression_words x.node) w.is_words;
      utf8 = w.utf8;
    }

-- ---- a value that is given

pub line_written : (g : Given) (may : MayBeGiven g) → is_one_line g ≡ true → IsWrittenStatement (given_bytes g) (expression_words (given_node g may))
line_written (given.Text text) may line = one_written _ _ (given_written (given.Text text) may)
line_written (given.Switch true) may line = one_written _ _ (given_written (given.Switch true) may)
line_written (given.Switch false) may line = one_written _ _ (given_written (given.Switch false) may)
line_written (given.Code code) may line =
    let x = given_written (given.Code code) may in
    let none : list_any (λ b. nat_eq b 10) (joined x.items) ≡ false = ap (list_any (λ b. nat_eq b 10)) x.is_new.are_items.joins ∙ not_any (list_any (λ b. nat_eq b 10) code) line in
    record {
      text = line-text code x.items x.is_new.are_items (no_lines x.items [] x.is_new.are_items.each none) x.is_new.tight (expression_words may.node) x.is_words;
      utf8 = x.utf8;
    }
