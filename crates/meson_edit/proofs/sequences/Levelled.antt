-- A list after an edit has its levels where the list before and what is put in have theirs.
use Rattle.meson_edit.proofs.Words.{if◌then◌else◌, ◌≡◌, ℕ, zero, suc, Bool, true, false, List, [], ◌∷◌, ◌++◌, take, drop, Some, refl, sym, ap, subst, ◌∙◌}
use Rattle.meson_edit.proofs.Words.{LevelExpression, LevelArgument, LevelArguments, LevelListing, LevelFile, Flagged, holds_names, ListAt, list_at, nth}
use Rattle.meson_edit.proofs.Words.{value_of, Nowhere, Plain, Expression, Listing, listing, Argument, plain, named, pair, is_named, arguments_of, Bracket}
use Rattle.meson_edit.proofs.Words.{list-of-arguments, some-injective, map-some, list-fits, Edit, First, After, Remove, Replace, Wrap, elements, with_elements}
use Rattle.meson_edit.proofs.Words.{with_value, array_of, first_element, element_added, element_removed, is_empty, MayFollow, RemovalsKeepLevels}
use Rattle.meson_edit.proofs.Words.{WrapsKeepLevels, ReplacementsKeepLevels, FirstsKeepLevels, InsertionsKeepLevels}
use Rattle.meson_syntax.specs.declared.operator.Bracket.TheVariants as bracket
use Rattle.meson_edit.proofs.lists.Found.{valued}
use Rattle.meson_edit.proofs.sequences.Changed.{Changed, changed}

abbrev Elements : Type 0
Elements = List (Argument Nowhere)

-- elements in brackets, behind an argument with a name or not
abbrev Levelled : Elements → Bracket → Bool → Type 0
Levelled xs b seen = LevelArguments (arguments_of xs) b seen

-- ---- one element gone

-- what may stand behind an element may stand in its place
in-its-place : (a c : Argument Nowhere) (b : Bracket) (seen : Bool) → LevelArgument a b seen → LevelArgument c b (is_named a) → LevelArgument c b seen
in-its-place (plain e) (plain f) b seen l m = (m.0, l.1, m.2)
in-its-place (named s x e) (plain f) b seen l m = absurd cc
in-its-place (pair s e g) (plain f) bracket.Round seen l m = absurd cc
in-its-place (pair s e g) (plain f) bracket.Square seen l m = absurd cc
in-its-place (pair s e g) (plain f) bracket.Curly seen l m = absurd cc
in-its-place a (named s x f) b seen l m = m
in-its-place a (pair s f g) b seen l m = m

without-first : (a : Argument Nowhere) (more : Elements) (b : Bracket) (seen : Bool) → LevelArgument a b seen → Levelled more b (is_named a) → Levelled more b seen
without-first a [] b seen l m = tt
without-first a (c ∷ more) b seen l m = (in-its-place a c b seen l m.0, m.1)

without-one : (xs : Elements) (n : ℕ) (it : Argument Nowhere) (b : Bracket) (seen : Bool) → nth xs n ≡ Some it → Levelled xs b seen → Levelled (take n xs ++ drop (suc n) xs) b seen
without-one [] n it b seen is l = absurd cc
without-one (x ∷ xs) zero it b seen is l = without-first x xs b seen l.0 l.1
without-one (x ∷ xs) (suc n) it b seen is l = (l.0, without-one xs n it b (is_named x) is l.1)

-- ---- one element with another value

named-same : (a : Argument Nowhere) (v : Expression Nowhere) → is_named (with_value v a) ≡ is_named a
named-same (plain e) v = refl
named-same (named s x e) v = refl
named-same (pair s e f) v = refl

value-levels : (a : Argument Nowhere) (v w : Expression Nowhere) (b : Bracket) (seen : Bool) → value_of a ≡ Some w → (LevelExpression w → LevelExpression v) → LevelArgument a b seen → LevelArgument (with_value v a) b seen
value-levels (plain e) v w b seen is level l = (l.0, l.1, level (subst LevelExpression (some-injective e w is) l.2))
value-levels (named s x e) v w b seen is level l = (l.0, level (subst LevelExpression (some-injective e w is) l.1))
value-levels (pair s e f) v w b seen is level l = (l.0, l.1, level (subst LevelExpression (some-injective f w is) l.2))

with-another : (xs : Elements) (n : ℕ) (it : Argument Nowhere) (v w : Expression Nowhere) (b : Bracket) (seen : Bool) → nth xs n ≡ Some it → value_of it ≡ Some w
    → (LevelExpression w → LevelExpression v) → Levelled xs b seen → Levelled (take n xs ++ with_value v it ∷ drop (suc n) xs) b seen
with-another [] n it v w b seen is value level l = absurd cc
with-another (x ∷ xs) zero it v w b seen is value level l =
    subst (λ a. Levelled (with_value v a ∷ xs) b seen) (some-injective x it is)
    (value-levels x v w b seen (ap value_of (some-injective x it is) ∙ value) level l.0, subst (Levelled xs b) (sym (named-same x v)) l.1)
with-another (x ∷ xs) (suc n) it v w b seen is value level l = (l.0, with-another xs n it v w b (is_named x) is value level l.1)

-- ---- one element more

-- in an array or a dictionary no element has a name
no-names : (b : Bracket) → holds_names b ≡ false → (a : Argument Nowhere) (seen : Bool) → LevelArgument a b seen → is_named a ≡ false
no-names b none (plain e) seen l = refl
no-names b none (named s x e) seen l = let both : true ≡ false = sym l.0 ∙ none in absurd cc
no-names b none (pair s e f) seen l = refl

between : (b : Bracket) (x : Argument Nowhere) (behind : Elements) (a : Argument Nowhere) (seen : Bool) → MayFollow b x behind a → LevelArgument x b seen → Levelled behind b (is_named x)
    → LevelArgument a b (is_named x) × Levelled behind b (is_named a)
between bracket.Square x behind (plain e) seen may l m =
    let no = no-names bracket.Square refl x seen l in
    ((refl, no, may), subst (Levelled behind bracket.Square) no m)
between bracket.Round x behind (plain e) seen may l m = ((refl, may.0, may.1), subst (Levelled behind bracket.Round) may.0 m)
between bracket.Round x behind (named s y e) seen may l m = ((refl, may.1), subst (λ ys. Levelled ys bracket.Round true) (sym may.0) tt)
between bracket.Square x behind (named s y e) seen may l m = absurd may
between bracket.Square x behind (pair s e f) seen may l m = absurd may
between bracket.Round x behind (pair s e f) seen may l m = absurd may
between bracket.Curly x behind (plain e) seen may l m = absurd may
between bracket.Curly x behind (named s y e) seen may l m = absurd may
between bracket.Curly x behind (pair s e f) seen may l m =
    ((refl, may.0, may.1), subst (Levelled behind bracket.Curly) (no-names bracket.Curly refl x seen l) m)

with-one : (xs : Elements) (n : ℕ) (it a : Argument Nowhere) (b : Bracket) (seen : Bool) → nth xs n ≡ Some it → MayFollow b it (drop (suc n) xs) a
    → Levelled xs b seen → Levelled (take (suc n) xs ++ a ∷ drop (suc n) xs) b seen
with-one [] n it a b seen is may l = absurd cc
with-one (x ∷ xs) zero it a b seen is may l =
    (l.0, between b x xs a seen (subst (λ y. MayFollow b y xs a) (sym (some-injective x it is)) may) l.0 l.1)
with-one (x ∷ xs) (suc n) it a b seen is may l = (l.0, with-one xs n it a b (is_named x) is may l.1)

-- ---- lists

flagged : (trailing : Bool) (xs : Elements) → Flagged (if is_empty xs then false else trailing) (arguments_of xs)
flagged trailing [] = refl
flagged trailing (x ∷ xs) = tt

list-levels : (l : Listing Nowhere) (b : Bracket) → LevelListing l b → Levelled (elements l) b false
list-levels (listing s trailing list) b l = subst (λ xs. LevelArguments xs b false) (sym (list-of-arguments list)) l.1

levels-list : (l : Listing Nowhere) (b : Bracket) (xs : Elements) → Levelled xs b false → LevelListing (with_elements l xs) b
levels-list (listing s trailing list) b xs l = (flagged trailing xs, l)

-- ---- trees

-- the tree has its levels where the elements after the edit do
levelled : (e : Edit) (path : List ℕ) (t now : Plain) (c : Changed e path t now) → LevelFile t
    → (Levelled (elements c.place.list) c.place.bracket false → Levelled c.list c.place.bracket false) → LevelFile now
levelled e path t now c level step =
    let q = c.place in
    let fits = list-fits Nowhere t path q c.is_place in
    subst LevelFile c.is_now (fits.outside level (with_elements q.list c.list) (levels-list q.list q.bracket c.list (step (list-levels q.list q.bracket (fits.level level)))))

-- the place of the edit is the one that was named
same-place : (e : Edit) (path : List ℕ) (t now : Plain) (c : Changed e path t now) (q : ListAt Nowhere) → list_at t path ≡ Some q → q ≡ c.place
same-place e path t now c q is = some-injective _ _ (sym is ∙ c.is_place)

pub removals-keep-levels : RemovalsKeepLevels
removals-keep-levels path n t now level is =
    let c = changed (Remove path n) path t now is in
    let xs = elements c.place.list in
    let m = map-some (element_removed n xs) (nth xs n) c.list c.is_list in
    levelled (Remove path n) path t now c level (λ l. subst (λ ys. Levelled ys c.place.bracket false) m.2 (without-one xs n m.0 c.place.bracket false m.1 l))

pub wraps-keep-levels : WrapsKeepLevels
wraps-keep-levels path n t now level is =
    let c = changed (Wrap path n) path t now is in
    let xs = elements c.place.list in
    let v = valued array_of n xs c.list c.is_list in
    levelled (Wrap path n) path t now c level (λ l. subst (λ ys. Levelled ys c.place.bracket false) v.is_now
    (with-another xs n v.it (array_of v.value) v.value c.place.bracket false v.is_it v.is_value (λ g. (tt, ((refl, refl, g), tt))) l))

pub replacements-keep-levels : ReplacementsKeepLevels
replacements-keep-levels path n new fresh t now level is =
    let c = changed (Replace path n new) path t now is in
    let xs = elements c.place.list in
    let v = valued (λ w. new.node) n xs c.list c.is_list in
    levelled (Replace path n new) path t now c level (λ l. subst (λ ys. Levelled ys c.place.bracket false) v.is_now
    (with-another xs n v.it new.node v.value c.place.bracket false v.is_it v.is_value (λ g. fresh) l))

first-levels : (a : Argument Nowhere) (xs now : Elements) (b : Bracket) → first_element a xs ≡ Some now → LevelArgument a b false → Levelled now b false
first-levels a [] now b is l = subst (λ ys. Levelled ys b false) (some-injective _ _ is) (l, tt)
first-levels a (x ∷ xs) now b is l = absurd cc

pub firsts-keep-levels : FirstsKeepLevels
firsts-keep-levels path new t now q is_q fresh level is =
    let c = changed (First path new) path t now is in
    let same = same-place (First path new) path t now c q is_q in
    levelled (First path new) path t now c level (λ l. first-levels new.node (elements c.place.list) c.list c.place.bracket c.is_list (subst (λ (p : ListAt Nowhere). LevelArgument new.node p.bracket false) same fresh))

pub insertions-keep-levels : InsertionsKeepLevels
insertions-keep-levels path n new t now q is_q it is_it may level is =
    let c = changed (After path n new) path t now is in
    let p = c.place in
    let same = same-place (After path n new) path t now c q is_q in
    let there : nth (elements p.list) n ≡ Some it = subst (λ (u : ListAt Nowhere). nth (elements u.list) n ≡ Some it) same is_it in
    let follows : MayFollow p.bracket it (drop (suc n) (elements p.list)) new.node =
    subst (λ (u : ListAt Nowhere). MayFollow u.bracket it (drop (suc n) (elements u.list)) new.node) same may in
    let m = map-some (element_added n new.node (elements p.list)) (nth (elements p.list) n) c.list c.is_list in
    levelled (After path n new) path t now c level (λ l. subst (λ ys. Levelled ys p.bracket false) m.2 (with-one (elements p.list) n it new.node p.bracket false there follows l))
