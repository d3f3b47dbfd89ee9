-- Words in pairs: the pairs are the words, and what refuses them.
use Rattle.std.proofs.Common.{◌≡◌, ◌≢◌, ◌∙◌, ◌∷◌, ◌||◌, ◌%◌, ℕ, suc, Bool, true, false, List, [], length, Option, Some, None, Result, Ok, Err, bytes_eq, refl, sym, ap, subst, arith}
use Rattle.std.specs.Prelude.{if◌then◌else◌, ok_or, option_map}
use Rattle.std.specs.List.{AllByRecursion, AllPairs, IsDistinct, list_any}
use Rattle.std.proofs.lemmas.Bool.Decides.{not_from_Decides}
use Rattle.std.proofs.lemmas.Map.Made.{AllPairs-from_IsDistinct, IsDistinct-from_AllPairs}
use Rattle.std.proofs.lemmas.Slice.Eq.{bytes_eq-Decides}
use Rattle.clap.specs.Words.{Text}
use Rattle.meson_splice.specs.Patch.{then_ok}
use Rattle.meson_steps.specs.declared.command.Command.TheVariants as command
use Rattle.meson_command.specs.Actions.{options_by, run}
use Rattle.meson_command.specs.Laws.{OddWordsAreOdd, PairsAreTheWords, UnsetIsDelete, words_of}
use Rattle.meson_command.specs.Pairs.{in_pairs, lone_names, pair_names, pairs_of, repeats}
use Rattle.meson_command.specs.declared.asked.Action.{Action}
use Rattle.meson_command.specs.declared.fault.UsageFault.{UsageFault}
use Rattle.meson_command.specs.declared.fault.UsageFault.TheVariants.{OddWords, RepeatedKey}

abbrev Pairs : Type 0
Pairs = List (Text × Text)

-- ---- two by two

more : (name value : Text) (o : Option Pairs) (words : List Text) (pairs : Pairs) → ((ps : Pairs) → o ≡ Some ps → words_of ps ≡ words) → option_map (λ ps. (name, value) ∷ ps) o ≡ Some pairs
    → words_of pairs ≡ name ∷ value ∷ words
more name value None words pairs h is = cc
more name value (Some ps) words pairs h is =
    let at : (name, value) ∷ ps ≡ pairs = cc in
    ap words_of (sym at) ∙ ap (λ ws. name ∷ value ∷ ws) (h ps refl)

are_words : (words : List Text) (pairs : Pairs) → in_pairs words ≡ Some pairs → words_of pairs ≡ words
are_words [] pairs is = let at : [] ≡ pairs = cc in ap words_of (sym at)
are_words (name ∷ []) pairs is = cc
are_words (name ∷ value ∷ words) pairs is = more name value (in_pairs words) words pairs (are_words words) is

are_pairs : (pairs : Pairs) → in_pairs (words_of pairs) ≡ Some pairs
are_pairs [] = refl
are_pairs (p ∷ pairs) = ap (option_map (λ ps. (p.0, p.1) ∷ ps)) (are_pairs pairs)

-- ---- no name twice

or_left : (a b : Bool) → (a || b) ≡ false → a ≡ false
or_left true b e = e
or_left false b e = refl

or_right : (a b : Bool) → (a || b) ≡ false → b ≡ false
or_right true b e = cc
or_right false b e = e

neither : (a b : Bool) → a ≡ false → b ≡ false → (a || b) ≡ false
neither true b h k = h
neither false b h k = k

differ : (b : Bool) → (b ≡ true → ⊥) → b ≡ false
differ true n = absurd (n refl)
differ false n = refl

flip : (x y : Text) → bytes_eq y x ≡ false → bytes_eq x y ≡ false
flip x y e = differ (bytes_eq x y) (λ t. not_from_Decides _ (bytes_eq-Decides y x) e (sym ((bytes_eq-Decides x y).0 t)))

apart : (x : Text) (xs : List Text) → list_any (λ y. bytes_eq y x) xs ≡ false → AllByRecursion (λ y. bytes_eq x y ≡ false) xs
apart x [] e = tt
apart x (y ∷ xs) e = (flip x y (or_left _ _ e), apart x xs (or_right (bytes_eq y x) _ e))

together : (x : Text) (xs : List Text) → AllByRecursion (λ y. bytes_eq x y ≡ false) xs → list_any (λ y. bytes_eq y x) xs ≡ false
together x [] h = refl
together x (y ∷ xs) h = neither _ _ (flip y x h.0) (together x xs h.1)

distinct : (xs : List Text) → repeats xs ≡ false → IsDistinct bytes_eq xs
unfolding IsDistinct
distinct [] e = tt
distinct (x ∷ xs) e = (apart x xs (or_left _ _ e), distinct xs (or_right (list_any (λ y. bytes_eq y x) xs) _ e))

no_repeat : (xs : List Text) → IsDistinct bytes_eq xs → repeats xs ≡ false
unfolding IsDistinct
no_repeat [] h = refl
no_repeat (x ∷ xs) h = neither _ _ (together x xs h.0) (no_repeat xs h.1)

-- ---- both

abbrev verdict : Bool → Pairs → Result Pairs UsageFault
verdict b ps = if b then Err RepeatedKey else Ok ps

abbrev checked : Pairs → Result Pairs UsageFault
checked pairs = verdict (repeats (pair_names pairs)) pairs

given : (ps pairs : Pairs) (b : Bool) → verdict b ps ≡ Ok pairs → (ps ≡ pairs) × (b ≡ false)
given ps pairs true e = cc
given ps pairs false e = (cc, refl)

found : (words : List Text) (pairs : Pairs) (o : Option Pairs) → o ≡ in_pairs words → then_ok (ok_or o OddWords) checked ≡ Ok pairs → (words_of pairs ≡ words) × AllPairs (λ x y. x ≢ y) (pair_names pairs)
found words pairs None is e = cc
found words pairs (Some ps) is e =
    let g = given ps pairs (repeats (pair_names ps)) e in (
      are_words words pairs (sym is ∙ ap (λ (p : Pairs). Some p) g.0),
      AllPairs-from_IsDistinct bytes_eq-Decides (pair_names pairs) (distinct (pair_names pairs) (subst (λ p. repeats (pair_names p) ≡ false) g.0 g.1)),
    )

back : (words : List Text) (pairs : Pairs) → words_of pairs ≡ words → AllPairs (λ x y. x ≢ y) (pair_names pairs) → pairs_of words ≡ Ok pairs
unfolding pairs_of
back words pairs is all =
    let here : in_pairs words ≡ Some pairs = ap in_pairs (sym is) ∙ are_pairs pairs in
    let once : repeats (pair_names pairs) ≡ false = no_repeat (pair_names pairs) (IsDistinct-from_AllPairs bytes_eq-Decides (pair_names pairs) all) in
    rw (here, once) refl

pub pairs-law : PairsAreTheWords
unfolding pairs_of
pairs-law words pairs = (λ e. found words pairs (in_pairs words) refl e, λ h. back words pairs h.0 h.1)

-- ---- an odd number

odd_more : (n : ℕ) → suc (suc n) % 2 ≡ n % 2
odd_more n = omega arith

none_more : (name value : Text) (o : Option Pairs) → option_map (λ ps. (name, value) ∷ ps) o ≡ None → o ≡ None
none_more name value None e = refl
none_more name value (Some ps) e = cc

left_over : (words : List Text) → in_pairs words ≡ None → length words % 2 ≡ 1
left_over [] e = cc
left_over (name ∷ []) e = refl
left_over (name ∷ value ∷ words) e = odd_more (length words) ∙ left_over words (none_more name value (in_pairs words) e)

not_even : (words : List Text) → length words % 2 ≡ 1 → in_pairs words ≡ None
not_even [] e = cc
not_even (name ∷ []) e = refl
not_even (name ∷ value ∷ words) e = ap (option_map (λ ps. (name, value) ∷ ps)) (not_even words (sym (odd_more (length words)) ∙ e))

is_odd : (ps : Pairs) (b : Bool) → verdict b ps ≡ Err OddWords → ⊥
is_odd ps true e = cc
is_odd ps false e = cc

none : (o : Option Pairs) → then_ok (ok_or o OddWords) checked ≡ Err OddWords → o ≡ None
none None e = refl
none (Some ps) e = absurd (is_odd ps (repeats (pair_names ps)) e)

pub odd-law : OddWordsAreOdd
unfolding pairs_of
odd-law words = (λ e. left_over words (none (in_pairs words) e), λ e. ap (λ o. then_ok (ok_or o OddWords) checked) (not_even words e))

-- ---- names alone

-- where no name is there twice, both make the same of the names
as-pairs : (b : Bool) (pairs : Pairs) (f : List Text → Result Action UsageFault)
    → then_ok (if b then Err RepeatedKey else Ok (pair_names pairs)) f ≡ then_ok (if b then Err RepeatedKey else Ok pairs) (λ ps. f (pair_names ps))
as-pairs true pairs f = refl
as-pairs false pairs f = refl

pub unset-law : UnsetIsDelete
unfolding options_by lone_names pairs_of
unset-law pairs =
    let delete : List Text → Result Action UsageFault = λ names. Ok (run (command.OptionsDelete names)) in
    as-pairs (repeats (pair_names pairs)) pairs delete
    ∙ ap (λ o. then_ok (then_ok (ok_or o OddWords) (λ ps. if repeats (pair_names ps) then Err RepeatedKey else Ok ps)) (λ ps. delete (pair_names ps))) (sym (are_pairs pairs))
