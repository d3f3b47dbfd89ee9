-- Histories whose splices are text, and so have a log.
use Rattle.std.proofs.Common.{◌≡◌, ℕ, Bool, true, false, ◌&&◌, List, [], ◌∷◌, ◌++◌, refl, sym, ap, ◌∙◌}
use Rattle.std.specs.List.{list_all}
use Rattle.std.specs.Str.{is_utf8}
use Rattle.std.proofs.lemmas.Str.{is_utf8-from_IsUtf8}
use Rattle.std.proofs.lemmas.List.Folds.{list_all-append}
use Rattle.meson_splice.specs.declared.change.Change.{Change}
use Rattle.meson_splice.specs.declared.history.History.{History}
use Rattle.meson_splice.specs.declared.splice.Splice.{Splice}
use Rattle.meson_splice.specs.Past.{Forgets}
use Rattle.meson_layout.specs.Laws.{AreTexts}
use Rattle.meson_json.specs.Log.{are_text, change_has_text, is_text_history, is_text}
use Rattle.meson_json.specs.Titles.{is_title}

both : (a b : Bool) → (a && b) ≡ true → (a ≡ true) × (b ≡ true)
both true b h = (refl, h)
both false b h = absurd (let bad : ⊥ = cc in bad)

join : (a b : Bool) → a ≡ true → b ≡ true → (a && b) ≡ true
join true b h k = k
join false b h k = absurd (let bad : ⊥ = cc in bad)

all-text : (ss : List Splice) → AreTexts ss → list_all is_text ss ≡ true
all-text [] a = refl
all-text (s ∷ ss) a = join (is_text s) (list_all is_text ss) (join (is_utf8 s.was) (is_utf8 s.now) (is_utf8-from_IsUtf8 s.was a.0.0) (is_utf8-from_IsUtf8 s.now a.0.1)) (all-text ss a.1)

one-more-text : (cs : List Change) (c : Change) → are_text cs ≡ true → change_has_text c ≡ true → are_text (cs ++ c ∷ []) ≡ true
one-more-text cs c h k = list_all-append change_has_text cs (c ∷ []) ∙ join (are_text cs) (are_text (c ∷ [])) h (join (change_has_text c) true k refl)

one-less-text : (cs : List Change) (c : Change) → are_text (cs ++ c ∷ []) ≡ true → (are_text cs ≡ true) × (change_has_text c ≡ true)
one-less-text cs c h =
    let parts = both (are_text cs) (are_text (c ∷ [])) (sym (list_all-append change_has_text cs (c ∷ [])) ∙ h) in
    (parts.0, (both (change_has_text c) true parts.1).0)

-- a change that is kept
pub kept-text : (h : History) (splices : List Splice) (title : List ℕ) → is_text_history h ≡ true → is_title title ≡ true → AreTexts splices
    → is_text_history (record { past = h.past ++ record { splices = splices; title = title } ∷ []; future = [] }) ≡ true
kept-text h splices title is named a =
    one-more-text h.past (record { splices = splices; title = title }) (both (are_text h.future) (are_text h.past) is).1 (join (list_all is_text splices) (is_title title) (all-text splices a) named)

-- a change that moves from one list to the other
moved-text : (from to here there : List Change) (c : Change) → from ≡ here ++ c ∷ [] → there ≡ to ++ c ∷ [] → are_text from ≡ true → are_text to ≡ true → (are_text here ≡ true) × (are_text there ≡ true)
moved-text from to here there c is gone a b =
    let parts = one-less-text here c (sym (ap are_text is) ∙ a) in
    (parts.0, ap are_text gone ∙ one-more-text to c b parts.1)

pub undone-text : (h k : History) (c : Change) → h.past ≡ k.past ++ c ∷ [] → k.future ≡ h.future ++ c ∷ [] → is_text_history h ≡ true → is_text_history k ≡ true
undone-text h k c is gone t =
    let parts = both (are_text h.future) (are_text h.past) t in
    let moved = moved-text h.past h.future k.past k.future c is gone parts.1 parts.0 in
    join (are_text k.future) (are_text k.past) moved.1 moved.0

pub redone-text : (h k : History) (c : Change) → h.future ≡ k.future ++ c ∷ [] → k.past ≡ h.past ++ c ∷ [] → is_text_history h ≡ true → is_text_history k ≡ true
redone-text h k c is gone t =
    let parts = both (are_text h.future) (are_text h.past) t in
    let moved = moved-text h.future h.past k.future k.past c is gone parts.0 parts.1 in
    join (are_text k.future) (are_text k.past) moved.0 moved.1

-- what is left where the oldest changes are let go
pub forgets-text : (count : ℕ) (h k : History) → Forgets count h k → is_text_history h ≡ true → is_text_history k ≡ true
forgets-text count h k f t =
    let parts = both (are_text h.future) (are_text h.past) t in
    let past = both (are_text f.gone) (are_text k.past) (sym (list_all-append change_has_text f.gone k.past) ∙ sym (ap are_text f.past) ∙ parts.1) in
    join (are_text k.future) (are_text k.past) (ap are_text f.future ∙ parts.0) past.1
