-- Facts about the log's value.
use Rattle.std.proofs.Common.{◌≡◌, ◌≤◌, false, true, List, [], ◌∷◌, map, Some, refl, arith}
use Rattle.std.specs.List.{list_all}
use Rattle.serde_json.specs.Data.{depth, items_depth}
use Rattle.serde_json.specs.View.{items_of}
use Rattle.serde_json.specs.Written.{has_float, items_have_float}
use Rattle.meson_splice.specs.declared.change.Change.{Change}
use Rattle.meson_splice.specs.declared.history.History.{History}
use Rattle.meson_splice.specs.declared.splice.Splice.{Splice}
use Rattle.meson_json.specs.Each.{each_of}
use Rattle.meson_json.specs.Log.{splice_data, change_data, log_data, splice_of_data, titled_change_of, change_of, history_of, is_text, change_has_text, are_text, is_text_history}
use Rattle.meson_json.specs.Titles.{is_title}
use Rattle.meson_json.specs.declared.version.Version.TheVariants.{Titled}
use Rattle.meson_json.proofs.LogLines.{both}

splices-no_float : (ss : List Splice) → items_have_float (items_of (map splice_data ss)) ≡ false
splices-no_float [] = refl
splices-no_float (s ∷ ss) = splices-no_float ss

changes-no_float : (cs : List Change) → items_have_float (items_of (map change_data cs)) ≡ false
changes-no_float [] = refl
changes-no_float (c ∷ cs) = rw (splices-no_float c.splices) (changes-no_float cs)

pub log-no_float : (h : History) → has_float (log_data h) ≡ false
unfolding log_data
log-no_float h = rw (changes-no_float h.future, changes-no_float h.past) refl

splices-depth : (ss : List Splice) → items_depth (items_of (map splice_data ss)) ≤ 1
splices-depth [] = omega arith
splices-depth (s ∷ ss) = omega (arith, splices-depth ss)

changes-depth : (cs : List Change) → items_depth (items_of (map change_data cs)) ≤ 3
changes-depth [] = omega arith
changes-depth (c ∷ cs) = omega (arith, splices-depth c.splices, changes-depth cs)

pub log-depth : (h : History) → depth (log_data h) ≤ 127
unfolding log_data
log-depth h = omega (arith, changes-depth h.future, changes-depth h.past)

splice-back : (s : Splice) → splice_of_data (splice_data s) ≡ Some s
unfolding splice_of_data
splice-back s = refl

splices-back : (ss : List Splice) → each_of splice_of_data (items_of (map splice_data ss)) ≡ Some ss
unfolding each_of
splices-back [] = refl
splices-back (s ∷ ss) = rw (splice-back s, splices-back ss) refl

change-back : (c : Change) → change_has_text c ≡ true → titled_change_of (change_data c) ≡ Some c
unfolding titled_change_of
change-back c h = rw (splices-back c.splices, (both (list_all is_text c.splices) (is_title c.title) h).1) refl

changes-back : (cs : List Change) → are_text cs ≡ true → each_of (change_of Titled) (items_of (map change_data cs)) ≡ Some cs
unfolding each_of
changes-back [] h = refl
changes-back (c ∷ cs) h =
    let parts = both (change_has_text c) (are_text cs) h in
    rw (change-back c parts.0, changes-back cs parts.1) refl

pub log-back : (h : History) → is_text_history h ≡ true → history_of (log_data h) ≡ Some h
unfolding history_of log_data
log-back h is =
    let parts = both (are_text h.future) (are_text h.past) is in
    rw (changes-back h.future parts.0, changes-back h.past parts.1) refl
