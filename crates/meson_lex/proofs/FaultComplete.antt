-- A fault at the front of a text is what `front` finds there.
use Rattle.std.proofs.Common.{◌≡◌, ℕ, Bool, true, false, cond, eqb, List, [], ◌∷◌, ◌++◌, take, drop, None, Ok, Err, sym, refl, ap, ◌∙◌, subst}
use Rattle.std.specs.List.{prefix_len}
use Rattle.std.proofs.lemmas.Bool.{cond-false, or_parts, or_right, ne_eqb, false≢true, false_from_ne_true}
use Rattle.meson_lex.specs.declared.fault.LexFault.{LexFault}
use Rattle.meson_lex.specs.declared.fault.LexFault.TheVariants.{StrayByte, OpenString, BadNumber, BareCarriageReturn}
use Rattle.meson_lex.specs.Bytes.{is_blank, is_line_byte, is_digit, is_word_start, is_word_byte, is_equals, begins}
use Rattle.meson_lex.specs.Kinds.{is_integer, IsContinuation}
use Rattle.meson_lex.specs.Faults.{begins_item, HasBareReturn, BeginsNone, other, not_equal, backslash, IsBadNumber, HasFault}
use Rattle.meson_lex.specs.Scan.{Front, unless_bare, number_front, continuation_front, plain_mark, equal_mark, plain_front, equal_front, mark_front, plain, front}
use Rattle.meson_lex.proofs.Runs.{run_take, run_joins, run_ends}
use Rattle.meson_lex.proofs.FrontComplete.{front_plain, opens_none, front_digit}
use Rattle.meson_lex.proofs.Openings.{bare_at, stray, bare_again, open_again}
use Rattle.meson_lex.proofs.FoundContinuations.{ContinuationSound, continuation_found, front_backslash}

-- a byte that fails a test is none that passes it
fails_apart : (test : ℕ → Bool) (b n : ℕ) → test b ≡ false → test n ≡ true → eqb b n ≡ false
fails_apart test b n fails passes = ne_eqb b n (λ e. false≢true (sym fails ∙ ap test e ∙ passes))

cond_both_same : (t : Bool) (x y z : Front) → x ≡ z → y ≡ z → cond t x y ≡ z
cond_both_same true x y z e f = e
cond_both_same false x y z e f = f

stray_other : (at b : ℕ) (bs : List ℕ) → begins_item b ≡ false → eqb b 33 ≡ false → front at (b ∷ bs) ≡ stray at
unfolding plain mark_front
stray_other at b bs h bang =
    let p62 = or_parts _ _ h in
    let p60 = or_parts _ _ p62.0 in
    let p61 = or_parts _ _ p60.0 in
    let p43 = or_parts _ _ p61.0 in
    let p37 = or_parts _ _ p43.0 in
    let p47 = or_parts _ _ p37.0 in
    let p42 = or_parts _ _ p47.0 in
    let p45 = or_parts _ _ p42.0 in
    let p63 = or_parts _ _ p45.0 in
    let p58 = or_parts _ _ p63.0 in
    let p46 = or_parts _ _ p58.0 in
    let p44 = or_parts _ _ p46.0 in
    let p125 = or_parts _ _ p44.0 in
    let p123 = or_parts _ _ p125.0 in
    let p93 = or_parts _ _ p123.0 in
    let p91 = or_parts _ _ p93.0 in
    let p41 = or_parts _ _ p91.0 in
    let p40 = or_parts _ _ p41.0 in
    let p92 = or_parts _ _ p40.0 in
    let p35 = or_parts _ _ p92.0 in
    let p39 = or_parts _ _ p35.0 in
    let pw = or_parts _ _ p39.0 in
    let pl = or_parts _ _ pw.0 in
    let word = or_parts (is_word_start b) (is_digit b) pw.1 in
    let plain_is : plain_mark b ≡ None = cond-false (eqb b 40) _ _ p40.1 ∙ cond-false (eqb b 41) _ _ p41.1 ∙ cond-false (eqb b 91) _ _ p91.1 ∙ cond-false (eqb b 93) _ _ p93.1 ∙ cond-false (eqb b 123) _ _ p123.1 ∙ cond-false (eqb b 125) _ _ p125.1 ∙ cond-false (eqb b 44) _ _ p44.1 ∙ cond-false (eqb b 46) _ _ p46.1 ∙ cond-false (eqb b 58) _ _ p58.1 ∙ cond-false (eqb b 63) _ _ p63.1 ∙ cond-false (eqb b 45) _ _ p45.1 ∙ cond-false (eqb b 42) _ _ p42.1 ∙ cond-false (eqb b 47) _ _ p47.1 ∙ cond-false (eqb b 37) _ _ p37.1 ∙ cond-false (eqb b 43) _ _ p43.1 ∙ cond-false (eqb b 61) _ _ p61.1 ∙ cond-false (eqb b 60) _ _ p60.1 ∙ cond-false (eqb b 62) _ _ p62.1 in
    let equal_is : equal_mark b ≡ None = cond-false (eqb b 43) _ _ p43.1 ∙ cond-false (eqb b 61) _ _ p61.1 ∙ cond-false (eqb b 33) _ _ bang ∙ cond-false (eqb b 60) _ _ p60.1 ∙ cond-false (eqb b 62) _ _ p62.1 in
    let stray_is : plain_front at (plain_mark b) ≡ stray at = ap (plain_front at) plain_is in
    front_plain at b bs (opens_none b bs (fails_apart is_word_byte b 102 pw.1 refl) p39.1)
    ∙ cond-false (is_blank b) _ _ pl.0 ∙ cond-false (is_line_byte b) _ _ pl.1 ∙ cond-false (eqb b 35) _ _ p35.1 ∙ cond-false (eqb b 92) _ _ p92.1 ∙ cond-false (is_word_start b) _ _ word.0 ∙ cond-false (is_digit b) _ _ word.1
    ∙ cond_both_same (begins is_equals bs) _ _ _ (ap (equal_front at b) equal_is ∙ stray_is) stray_is

stray_bang : (at : ℕ) (bs : List ℕ) → begins is_equals bs ≡ false → front at (33 ∷ bs) ≡ stray at
unfolding front plain mark_front
stray_bang at bs h = cond-false (begins is_equals bs) _ _ h

stray_backslash : (at : ℕ) (bs : List ℕ) → ((text rest : List ℕ) → text ++ rest ≡ 92 ∷ bs → IsContinuation text → ⊥) → ((place : ℕ) → HasBareReturn (92 ∷ bs) place → ⊥) → (r : Front) → ContinuationSound at (92 ∷ bs) r → r ≡ stray at
stray_backslash at bs no_item no_bare (Ok p) h = absurd (no_item h.1.0 h.1.1 h.1.2 h.1.3)
stray_backslash at bs no_item no_bare (Err (StrayByte n)) h = ap stray h
stray_backslash at bs no_item no_bare (Err (BareCarriageReturn n)) h = absurd (no_bare h.0 h.2)
stray_backslash at bs no_item no_bare (Err (OpenString n)) h = absurd h
stray_backslash at bs no_item no_bare (Err (BadNumber n)) h = absurd h

pub stray_again : (at : ℕ) (bytes : List ℕ) → BeginsNone bytes → front at bytes ≡ stray at
stray_again at bytes (other b bs item bang) = stray_other at b bs item (ne_eqb b 33 bang)
stray_again at bytes (not_equal b bs is none) = subst (λ x. front at (x ∷ bs) ≡ stray at) (sym is) (stray_bang at bs none)
stray_again at bytes (backslash b bs is no_item no_bare) =
    let P : ℕ → Type 0 = λ x. ((text rest : List ℕ) → text ++ rest ≡ x ∷ bs → IsContinuation text → ⊥) → ((place : ℕ) → HasBareReturn (x ∷ bs) place → ⊥) → front at (x ∷ bs) ≡ stray at in
    subst P (sym is) (λ f g. front_backslash at bs ∙ stray_backslash at bs f g (continuation_front at bs) (continuation_found at bs)) no_item no_bare

number_again : (at : ℕ) (bytes : List ℕ) → IsBadNumber bytes → front at bytes ≡ Err (BadNumber at)
unfolding number_front
number_again at [] h = absurd (false≢true h.digit)
number_again at (b ∷ bs) h =
    let passes : is_word_byte b ≡ true = or_right (is_word_start b) (is_digit b) h.digit in
    let taken = run_take is_word_byte b bs passes in
    let bad : is_integer (take (prefix_len is_word_byte (b ∷ bs)) (b ∷ bs)) ≡ false = false_from_ne_true _ (λ good. h.none (b ∷ take (prefix_len is_word_byte bs) bs) (drop (prefix_len is_word_byte bs) bs) (run_joins is_word_byte b bs passes) (ap is_integer (sym taken) ∙ good) (run_ends is_word_byte bs)) in
    front_digit at b bs h.digit ∙ cond-false (is_integer (take (prefix_len is_word_byte (b ∷ bs)) (b ∷ bs))) _ _ bad

pub fault_again : (at : ℕ) (bytes : List ℕ) (fault : LexFault) → HasFault at bytes fault → front at bytes ≡ Err fault
fault_again at bytes (StrayByte n) h = stray_again at bytes h.1 ∙ ap stray (sym h.0)
fault_again at bytes (OpenString n) h =
    open_again at h.1.kind bytes h.1.opened h.1.not_closed ∙ ap (λ o. unless_bare at o (Err (OpenString at))) h.1.no_return ∙ ap (λ m. Err (OpenString m)) (sym h.0)
fault_again at bytes (BadNumber n) h = number_again at bytes h.1 ∙ ap (λ m. Err (BadNumber m)) (sym h.0)
fault_again at bytes (BareCarriageReturn n) (k, is, bare) = bare_again at k bytes bare ∙ ap bare_at (sym is)
