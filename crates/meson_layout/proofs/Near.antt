-- Which items may stand side by side, blanks beside blanks let pass: said of pairs, and of whole lists.
use Rattle.std.proofs.Common.{◌≡◌, ℕ, Bool, true, false, ◌&&◌, List, [], ◌∷◌, ◌++◌, None, refl, sym, ◌∙◌, subst, inl, inr, append_assoc}
use Rattle.std.specs.Prelude.{⊤, ◌==◌}
use Rattle.std.specs.List.{AllByRecursion}
use Rattle.meson_lex.specs.declared.kinds.Kind.{Kind}
use Rattle.meson_lex.specs.declared.kinds.Kind.TheVariants as k
use Rattle.meson_lex.specs.Bytes.{is_blank, begins, begins_bare_return, first_bare_return}
use Rattle.meson_lex.specs.Kinds.{OfKind}
use Rattle.meson_lex.specs.Neighbours.{Shape, blanks, note, name, word, quoted, format_quoted, extendable, closed, shape, StandsBefore}
use Rattle.meson_lex.specs.Items.{Lexeme, joined, AreItems}
use Rattle.meson_lex.proofs.Standing.{none_parts}
use Rattle.meson_layout.specs.Looks as look
use Rattle.meson_layout.proofs.FirstBytes.{some_text, no_blank_first}

-- a text of the shape may stand before the rest, which blanks may follow
abbrev pub StandsBy : Shape → List ℕ → List ℕ → Type 0
StandsBy blanks text rest = Unit {0}
StandsBy note text rest = StandsBefore note text rest
StandsBy name text rest = StandsBefore name text rest
StandsBy word text rest = StandsBefore word text rest
StandsBy quoted text rest = StandsBefore quoted text rest
StandsBy format_quoted text rest = StandsBefore format_quoted text rest
StandsBy extendable text rest = StandsBefore extendable text rest
StandsBy closed text rest = StandsBefore closed text rest

abbrev pub Near : Lexeme → Lexeme → Type 0
Near x y = StandsBy (shape x.kind) x.text y.text

-- each item may stand behind the one before it; the first one stands behind x
abbrev pub Follow : Lexeme → List Lexeme → Type 0
Follow x [] = ⊤
Follow x (y ∷ ys) = Near x y × Follow y ys

-- an item by itself
abbrev pub IsGood : Lexeme → Type 0
IsGood x = OfKind x.kind x.text × (first_bare_return x.text ≡ None)

abbrev pub AllGood : List Lexeme → Type 0
AllGood xs = AllByRecursion IsGood xs

abbrev pub last : Lexeme → List Lexeme → Lexeme
last x [] = x
last x (y ∷ ys) = last y ys

-- ---- lists in parts

pub follow-join : (x : Lexeme) (xs ys : List Lexeme) → Follow x xs → Follow (last x xs) ys → Follow x (xs ++ ys)
follow-join x [] ys h k = k
follow-join x (y ∷ xs) ys h k = (h.0, follow-join y xs ys h.1 k)

pub follow-front : (x : Lexeme) (xs ys : List Lexeme) → Follow x (xs ++ ys) → Follow x xs
follow-front x [] ys h = tt
follow-front x (y ∷ xs) ys h = (h.0, follow-front y xs ys h.1)

pub follow-rest : (x : Lexeme) (xs ys : List Lexeme) → Follow x (xs ++ ys) → Follow (last x xs) ys
follow-rest x [] ys h = h
follow-rest x (y ∷ xs) ys h = follow-rest y xs ys h.1

pub last-append : (x : Lexeme) (xs ys : List Lexeme) → last x (xs ++ ys) ≡ last (last x xs) ys
last-append x [] ys = refl
last-append x (y ∷ xs) ys = last-append y xs ys

pub good-join : (xs ys : List Lexeme) → AllGood xs → AllGood ys → AllGood (xs ++ ys)
good-join [] ys h k = k
good-join (x ∷ xs) ys h k = (h.0, good-join xs ys h.1 k)

pub good-front : (xs ys : List Lexeme) → AllGood (xs ++ ys) → AllGood xs
good-front [] ys h = tt
good-front (x ∷ xs) ys h = (h.0, good-front xs ys h.1)

pub good-rest : (xs ys : List Lexeme) → AllGood (xs ++ ys) → AllGood ys
good-rest [] ys h = h
good-rest (x ∷ xs) ys h = good-rest xs ys h.1

-- ---- pairs and what follows in the text

bare-more : (t u : Bool) → (t && true) ≡ false → (t && u) ≡ (t && true)
bare-more true u h = absurd cc
bare-more false u h = refl

-- whether a CR stands alone at the front does not hang on what stands behind the first item
pub bare-same : (b : ℕ) (bs more : List ℕ) → begins_bare_return (b ∷ bs) ≡ false → begins_bare_return (b ∷ (bs ++ more)) ≡ begins_bare_return (b ∷ bs)
bare-same b [] more h = bare-more (b == 13) _ h
bare-same b (c ∷ bs) more h = refl

pub stands-same : (σ : Shape) (text : List ℕ) (b : ℕ) (us vs : List ℕ) → begins_bare_return (b ∷ us) ≡ begins_bare_return (b ∷ vs) → StandsBy σ text (b ∷ us) → StandsBy σ text (b ∷ vs)
stands-same blanks text b us vs e h = tt
stands-same note text b us vs e (inl n) = absurd cc
stands-same note text b us vs e (inr h) = inr (h.0, sym e ∙ h.1)
stands-same name text b us vs e h = (h.0, h.1)
stands-same word text b us vs e h = h
stands-same quoted text b us vs e h = h
stands-same format_quoted text b us vs e h = h
stands-same extendable text b us vs e h = h
stands-same closed text b us vs e h = tt

pub bare-none : (b : ℕ) (bs : List ℕ) → first_bare_return (b ∷ bs) ≡ None → begins_bare_return (b ∷ bs) ≡ false
bare-none b bs h = (none_parts (begins_bare_return (b ∷ bs)) (first_bare_return bs) h).0

pub near-to : (σ : Shape) (text next more : List ℕ) → (next ≡ [] → ⊥) → first_bare_return next ≡ None → StandsBy σ text next → StandsBy σ text (next ++ more)
near-to σ text [] more some none h = absurd (some refl)
near-to σ text (b ∷ bs) more some none h = stands-same σ text b bs (bs ++ more) (sym (bare-same b bs more (bare-none b bs none))) h

near-from : (σ : Shape) (text next more : List ℕ) → (next ≡ [] → ⊥) → first_bare_return next ≡ None → StandsBy σ text (next ++ more) → StandsBy σ text next
near-from σ text [] more some none h = absurd (some refl)
near-from σ text (b ∷ bs) more some none h = stands-same σ text b (bs ++ more) bs (bare-same b bs more (bare-none b bs none)) h

-- ---- from an item list

weaker : (σ : Shape) (text rest : List ℕ) → StandsBefore σ text rest → StandsBy σ text rest
weaker blanks text rest h = tt
weaker note text rest h = h
weaker name text rest h = h
weaker word text rest h = h
weaker quoted text rest h = h
weaker format_quoted text rest h = h
weaker extendable text rest h = h
weaker closed text rest h = h

pub items-good : (xs : List Lexeme) (rest : List ℕ) → AreItems xs rest → AllGood xs
items-good [] rest h = tt
items-good (x ∷ xs) rest h = ((h.0.0, h.0.1), items-good xs rest h.1)

items-chain : (x : Lexeme) (xs : List Lexeme) (rest : List ℕ) → AreItems (x ∷ xs) rest → Follow x xs
items-chain x [] rest h = tt
items-chain x (y ∷ ys) rest h =
    let stands : StandsBy (shape x.kind) x.text (y.text ++ (joined ys ++ rest)) =
    subst (StandsBy (shape x.kind) x.text) (append_assoc y.text (joined ys) rest) (weaker (shape x.kind) x.text (joined (y ∷ ys) ++ rest) h.0.2) in
    (near-from (shape x.kind) x.text y.text (joined ys ++ rest) (some_text y.kind y.text h.1.0.0) h.1.0.1 stands, items-chain y ys rest h.1)

-- anything may stand behind it
abbrev pub IsLoose : Lexeme → Type 0
IsLoose x = (y : Lexeme) → Near x y

pub items-follow : (o : Lexeme) (xs : List Lexeme) (rest : List ℕ) → IsLoose o → AreItems xs rest → Follow o xs
items-follow o [] rest l h = tt
items-follow o (x ∷ xs) rest l h = (l x, items-chain x xs rest h)

-- ---- to an item list

-- no blank stands behind a blank
abbrev pub Apart : List Lexeme → Type 0
Apart [] = ⊤
Apart (x ∷ []) = ⊤
Apart (x ∷ y ∷ ys) = ((look.is_blank_kind x.kind && look.is_blank_kind y.kind) ≡ false) × Apart (y ∷ ys)

at-end : (σ : Shape) (text : List ℕ) → StandsBefore σ text []
at-end blanks text = refl
at-end note text = inl refl
at-end name text = (refl, λ e. refl)
at-end word text = refl
at-end quoted text = λ e. refl
at-end format_quoted text = λ e. refl
at-end extendable text = refl
at-end closed text = tt

begins-front : (test : ℕ → Bool) (next more : List ℕ) → (next ≡ [] → ⊥) → begins test next ≡ false → begins test (next ++ more) ≡ false
begins-front test [] more some h = absurd (some refl)
begins-front test (b ∷ bs) more some h = h

-- the two kinds are blanks, or the other one begins with no blank
stronger : (k : Kind) (text next : List ℕ) → ((look.is_blank_kind k ≡ true) → begins is_blank next ≡ false) → StandsBy (shape k) text next → StandsBefore (shape k) text next
stronger k.Blank text next apart h = apart refl
stronger k.Comment text next apart h = h
stronger k.Identifier text next apart h = h
stronger k.PlainString text next apart h = h
stronger k.FormatString text next apart h = h
stronger _ text next apart h = h

apart-first : (x y : Lexeme) → (look.is_blank_kind x.kind && look.is_blank_kind y.kind) ≡ false → look.is_blank_kind x.kind ≡ true → look.is_blank_kind y.kind ≡ false
apart-first x y h b = rw b at h

pub chain-items : (xs : List Lexeme) (o : Lexeme) → Follow o xs → AllGood xs → Apart xs → AreItems xs []
chain-items [] o f g a = tt
chain-items (x ∷ []) o f g a = ((g.0.0, g.0.1, at-end (shape x.kind) x.text), tt)
chain-items (x ∷ y ∷ ys) o f g a =
    let good = g.1.0 in
    let some = some_text y.kind y.text good.0 in
    let more = joined ys ++ [] in
    let near : StandsBy (shape x.kind) x.text (y.text ++ more) = near-to (shape x.kind) x.text y.text more some good.1 f.1.0 in
    let stands : StandsBefore (shape x.kind) x.text (y.text ++ more) =
    stronger x.kind x.text (y.text ++ more) (λ b. begins-front is_blank y.text more some (no_blank_first y (apart-first x y a.0 b) good.0)) near in
    ((g.0.0, g.0.1, subst (StandsBefore (shape x.kind) x.text) (sym (append_assoc y.text (joined ys) [])) stands), chain-items (y ∷ ys) x f.1 g.1 a.1)
