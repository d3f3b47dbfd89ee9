-- What a step on a list has read again.
use Rattle.meson_steps.proofs.Words.{◌≡◌, ℕ, zero, suc, ◌<◌, ◌≤◌, List, [], ◌∷◌, ◌++◌, Some, length, length-append, sym, ap, ◌∙◌, arith, option_and_then}
use Rattle.meson_steps.proofs.Words.{bytes_at, with_bytes, File, Span, ListAt, list_at, list_span, Edit, First, After, Remove, Replace, Wrap, RemoveStatement}
use Rattle.meson_steps.proofs.Words.{Append, Assign, Lines, IsEditOf, ListsAreReadAgain, bytes_again, list_of}
use Rattle.meson_steps.proofs.ListTaken.{old_list_some}
use Rattle.meson_steps.proofs.OtherBytes.{bytes_there}
use Rattle.meson_steps.proofs.PatchedFiles.{same_files}

list_named : (e : Edit) (path : List ℕ) → IsEditOf path e → list_of e ≡ Some path
list_named (First list new) path is = ap Some (sym is)
list_named (After list n new) path is = ap Some (sym is)
list_named (Remove list n) path is = ap Some (sym is)
list_named (Replace list n new) path is = ap Some (sym is)
list_named (Wrap list n) path is = ap Some (sym is)
list_named (RemoveStatement blank block n) path is = absurd is
list_named (Append new) path is = absurd is
list_named (Assign assignment new) path is = absurd is
list_named (Lines place new) path is = absurd is

-- by the lengths of both texts
pub again_is : (p : ListAt Span) (before after front was now back : List ℕ) → before ≡ front ++ (was ++ back) → after ≡ front ++ (now ++ back)
    → length front ≡ (list_span p.list).from → length (front ++ was) ≡ (list_span p.list).to → bytes_again (Some p) before after ≡ length now
again_is p before after front was now back old new from to =
    omega (arith, ap length old, ap length new, from, to, length-append front was, length-append front (was ++ back), length-append was back, length-append front (now ++ back), length-append now back)

-- a file with some bytes is one of the files
file_there : (files : List File) (i : ℕ) → 1 ≤ length (bytes_at i files) → i < length files
file_there [] i some = absurd (omega (arith, some))
file_there (f ∷ files) zero some = omega arith
file_there (f ∷ files) (suc i) some = let below = file_there files i some in omega (arith, below)

pub lists-are-read-again : ListsAreReadAgain
lists-are-read-again files s splice more between laid done path names p is_p w =
    let i = s.file in
    let before = bytes_at i files in
    let own = old_list_some laid.limits before laid.file laid.spanned path p is_p w.front w.was w.back w.old w.from w.to in
    let some : 1 ≤ length before = omega (arith, own, ap length w.old, length-append w.front (w.was ++ w.back), length-append w.was w.back) in
    let same = same_files between (with_bytes i laid.text files) _ done laid.made in
    let text_is : bytes_at i between ≡ laid.text = ap (bytes_at i) same ∙ bytes_there files i laid.text (file_there files i some) in
    ap (λ o. bytes_again (option_and_then (list_at laid.file) o) before (bytes_at i between)) (list_named s.edit path names)
    ∙ ap (λ o. bytes_again o before (bytes_at i between)) is_p
    ∙ again_is p before (bytes_at i between) w.front w.was w.now w.back w.old (text_is ∙ w.new) w.from w.to
