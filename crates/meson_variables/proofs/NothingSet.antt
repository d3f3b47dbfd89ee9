-- A note of no setter, which is no call that sets a variable, says nothing of some variables.
use Rattle.meson_variables.proofs.Words.{◌≡◌, ℕ, Bool, List, Bor, true, false, codes, Some, None, refl, sym, ap, ◌∙◌, ◌&&◌, ◌||◌, not, is_none, bytes_eq}
use Rattle.meson_variables.proofs.Words.{if◌then◌else◌, bytes_eq-Decides, File, Span, calls_function, first_literal, is, is_entered, meant_in, Note, a_call}
use Rattle.meson_variables.proofs.Words.{an_assignment, a_loop, is_among, is_setter, sets_by_call, CallRef, neither, note_assigned, note_sets, enters_none}
use Rattle.meson_variables.proofs.Words.{is_unknown_in, Assigned}

pub sets_none : (names : List (Bor (List ℕ))) (x : List ℕ) (n : Note Span) → sets_by_call n ≡ false → is_setter names n ≡ false → note_sets x n ≡ false
sets_none names x (a_call c) none other = ap (λ b. b && is x (first_literal c)) (neither (calls_function (codes "subdir") c) (calls_function (codes "set_variable") c) none).1
sets_none names x (an_assignment y sets e) none is = refl
sets_none names x (a_loop xs) none is = absurd cc

pub unknown_none : (those : List File) (place : CallRef) (n : Note Span) → sets_by_call n ≡ false → is_unknown_in those place n ≡ false
unknown_none those place (a_call c) none =
    let no = neither (calls_function (codes "subdir") c) (calls_function (codes "set_variable") c) none in
    ap (λ b. (b && is_none (first_literal c)) || enters_none those place.file c) no.1
    ∙ ap (λ b. b && not (is_entered those (meant_in those place.file (first_literal c)))) no.0
unknown_none those place (an_assignment y sets e) none = refl
unknown_none those place (a_loop xs) none = refl

-- an assignment to another variable
pub assigned_none : (names : List (Bor (List ℕ))) (x : List ℕ) → is_among names x ≡ true → (n : Note Span) → is_setter names n ≡ false → note_assigned x n ≡ None
assigned_none names x among (a_call c) is = refl
assigned_none names x among (an_assignment y sets e) is = go (record { value = e; sets = sets }) (bytes_eq y x) (bytes_eq-Decides y x).0
  where
    go : (a : Assigned Span) (b : Bool) → (b ≡ true → y ≡ x) → (if b then Some a else None) ≡ None
    go a true same = let both : true ≡ false = sym among ∙ ap (is_among names) (sym (same refl)) ∙ is in absurd cc
    go a false same = refl
assigned_none names x among (a_loop xs) is = refl
