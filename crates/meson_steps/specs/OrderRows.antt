-- Lists of four elements and others, and where new ones come in them.
use Rattle.std.specs.Prelude.{◌≡◌, ℕ, true, false, List, [], ◌∷◌, ◌++◌, length, map, codes, Some, None}
use Rattle.meson_syntax.specs.Tree.{Argument, Nowhere, bare_name, named, plain}
use Rattle.meson_steps.specs.declared.order.InsertionPoint.{InsertionPoint}
use Rattle.meson_steps.specs.declared.order.InsertionPoint.TheVariants as point
use Rattle.meson_steps.specs.declared.order.SortKey.{SortKey}
use Rattle.meson_steps.specs.declared.order.SortKey.TheVariants as key
use Rattle.meson_steps.specs.Order.{insertion_point}
use Rattle.meson_steps.specs.OrderedLists.{Added, Ordered, all_elements}
use Rattle.meson_steps.specs.WrittenTexts.{string_of, written_text}

-- ---- places

abbrev texts : List (List ℕ) → List SortKey
texts olds = map (λ old. key.Text old) olds

abbrev names : List (List ℕ) → List SortKey
names olds = map (λ old. key.Name old) olds

-- a text among texts, where none may be put in front
abbrev text_among : List ℕ → List (List ℕ) → InsertionPoint
text_among new olds = insertion_point false (key.Text new) (texts olds)

-- a text among texts, where one may be put in front
abbrev text_in_front : List ℕ → List (List ℕ) → InsertionPoint
text_in_front new olds = insertion_point true (key.Text new) (texts olds)

-- an identifier among identifiers
abbrev name_among : List ℕ → List (List ℕ) → InsertionPoint
name_among new olds = insertion_point false (key.Name new) (names olds)

abbrev a_b_d_e : List (List ℕ)
a_b_d_e = codes "a.c" ∷ codes "b.c" ∷ codes "d.c" ∷ codes "e.c" ∷ []

abbrev b_d_e_f : List (List ℕ)
b_d_e_f = codes "b.c" ∷ codes "d.c" ∷ codes "e.c" ∷ codes "f.c" ∷ []

-- Of four elements that ascend the new one comes after those that are less.
abbrev pub AmongFour : Type 0
AmongFour =
    (text_among (codes "c.c") a_b_d_e ≡ point.After 1)
    × (text_among (codes "b-x.c") a_b_d_e ≡ point.After 0)
    × (text_among (codes "f.c") a_b_d_e ≡ point.After 3)
    × (text_among (codes "B.c") (codes "A.c" ∷ codes "C.c" ∷ codes "a.c" ∷ codes "b.c" ∷ []) ≡ point.After 0)
    × (text_among (codes "ab.c") a_b_d_e ≡ point.After 0)
    × (name_among (codes "b_dep") (codes "a_dep" ∷ codes "c_dep" ∷ codes "d_dep" ∷ codes "e_dep" ∷ []) ≡ point.After 0)

-- In front of all it comes only where one may be put there.
abbrev pub InFront : Type 0
InFront =
    (text_in_front (codes "a.c") b_d_e_f ≡ point.Front)
    × (text_among (codes "a.c") b_d_e_f ≡ point.End)
    × (text_in_front (codes "c.c") b_d_e_f ≡ point.After 0)

-- Fewer than four are no order, nor are those of which one is out of place, or there twice. Texts and identifiers are not compared, and nothing else is. A text
-- that begins with `-` is in no order.
abbrev pub NoOrder : Type 0
NoOrder =
    (text_in_front (codes "a.c") (codes "b.c" ∷ codes "c.c" ∷ codes "d.c" ∷ []) ≡ point.End)
    × (text_among (codes "b.c") (codes "a.c" ∷ codes "c.c" ∷ []) ≡ point.End)
    × (text_among (codes "b.c") [] ≡ point.End)
    × (text_among (codes "c.c") (codes "a.c" ∷ codes "d.c" ∷ codes "b.c" ∷ codes "e.c" ∷ []) ≡ point.End)
    × (text_among (codes "c.c") (codes "a.c" ∷ codes "b.c" ∷ codes "b.c" ∷ codes "d.c" ∷ []) ≡ point.End)
    × (text_among (codes "-DC") (codes "-DA" ∷ codes "-DB" ∷ codes "-DD" ∷ codes "-DE" ∷ []) ≡ point.End)
    × (insertion_point true (key.Text (codes "c.c")) (names a_b_d_e) ≡ point.End)
    × (insertion_point true (key.Name (codes "c.c")) (texts a_b_d_e) ≡ point.End)
    × (insertion_point true key.Other (texts a_b_d_e) ≡ point.End)
    × (insertion_point true (key.Text (codes "c.c")) (key.Text (codes "a.c") ∷ key.Text (codes "b.c") ∷ key.Other ∷ key.Text (codes "d.c") ∷ []) ≡ point.End)

-- ---- elements

abbrev strings : List (List ℕ) → List (Argument Nowhere)
strings olds = map (λ old. plain (string_of old)) olds

abbrev all_new : List (List ℕ) → List Added
all_new news = map (λ new. record { key = key.Text new; written = written_text new }) news

-- a list of strings
abbrev list_of : List (List ℕ) → Ordered
list_of olds = record { from = 0; end = length olds; keys = texts olds; first = None }

-- another one may be put in front of the first
abbrev open_list : List (List ℕ) → Ordered
open_list [] = list_of []
open_list (old ∷ olds) = record { from = 0; end = length (old ∷ olds); keys = texts (old ∷ olds); first = Some (written_text old) }

-- Strings come into it, one after another, and then it has these.
abbrev becomes : Ordered → List (List ℕ) → (news after : List (List ℕ)) → Type 0
becomes o olds news after = all_elements o (all_new news) (strings olds) ≡ strings after

-- the argument of a call that has a name
abbrev option : Argument Nowhere
option = named tt (bare_name (codes "install")) (string_of (codes "yes"))

-- Each comes into the list as the one before left it: a fourth makes an order of three.
abbrev pub OneAfterAnother : Type 0
OneAfterAnother =
    becomes (list_of a_b_d_e) a_b_d_e (codes "c.c" ∷ []) (codes "a.c" ∷ codes "b.c" ∷ codes "c.c" ∷ codes "d.c" ∷ codes "e.c" ∷ [])
    × becomes (list_of a_b_d_e) a_b_d_e (codes "f.c" ∷ codes "c.c" ∷ [])
    (codes "a.c" ∷ codes "b.c" ∷ codes "c.c" ∷ codes "d.c" ∷ codes "e.c" ∷ codes "f.c" ∷ [])
    × becomes (list_of b_d_e_f) b_d_e_f (codes "a.c" ∷ []) (codes "b.c" ∷ codes "d.c" ∷ codes "e.c" ∷ codes "f.c" ∷ codes "a.c" ∷ [])
    × becomes (open_list b_d_e_f) b_d_e_f (codes "c.c" ∷ codes "a.c" ∷ [])
    (codes "a.c" ∷ codes "b.c" ∷ codes "c.c" ∷ codes "d.c" ∷ codes "e.c" ∷ codes "f.c" ∷ [])
    × becomes (list_of (codes "a.c" ∷ codes "b.c" ∷ codes "c.c" ∷ [])) (codes "a.c" ∷ codes "b.c" ∷ codes "c.c" ∷ []) (codes "e.c" ∷ codes "d.c" ∷ [])
    (codes "a.c" ∷ codes "b.c" ∷ codes "c.c" ∷ codes "d.c" ∷ codes "e.c" ∷ [])
    × becomes (list_of []) [] (codes "b.c" ∷ codes "a.c" ∷ []) (codes "b.c" ∷ codes "a.c" ∷ [])

-- The name of a target does not count, nor does an argument with a name, before which the end is.
abbrev pub InCalls : Type 0
InCalls =
    (all_elements (record { from = 1; end = 5; keys = texts b_d_e_f; first = Some (written_text (codes "b.c")) }) (all_new (codes "a.c" ∷ codes "g.c" ∷ []))
    (strings (codes "x" ∷ b_d_e_f) ++ option ∷ [])
    ≡ strings (codes "x" ∷ codes "a.c" ∷ codes "b.c" ∷ codes "d.c" ∷ codes "e.c" ∷ codes "f.c" ∷ codes "g.c" ∷ []) ++ option ∷ [])
    × (all_elements (record { from = 1; end = 2; keys = texts (codes "b.c" ∷ []); first = None }) (all_new (codes "a.c" ∷ []))
    (strings (codes "x" ∷ codes "b.c" ∷ []) ++ option ∷ [])
    ≡ strings (codes "x" ∷ codes "b.c" ∷ codes "a.c" ∷ []) ++ option ∷ [])
