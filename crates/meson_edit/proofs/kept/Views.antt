-- A tree over two sources.
use Rattle.meson_edit.proofs.Words.{sym, ap, ◌∙◌, code_file, code_listing, moved_list, moved_parsed, span_by, list_view, view, list_told, file_told, ViewsText}
use Rattle.meson_edit.proofs.Words.{ListViewsText, ViewsMove, ListViewsMove, ViewsTell, ListViewsTell, each_file, each_listing}
use Rattle.meson_edit.proofs.kept.Texts.{list, the_file}
use Rattle.meson_edit.proofs.kept.MovedCodes as moved

pub views-text : ViewsText
views-text source other t = ap (view source) (sym (file_told other t)) ∙ the_file source (view other t)

pub list-views-text : ListViewsText
list-views-text source other l = ap (list_view source) (sym (list_told other l)) ∙ list source (list_view other l)

pub views-move : ViewsMove
views-move g source other t =
    ap (λ u. view source (moved_parsed g u)) (sym (file_told other t))
    ∙ ap (view source) (moved.the_file g (view other t))
    ∙ the_file source (each_file (span_by g) (view other t))

pub list-views-move : ListViewsMove
list-views-move g source other l =
    ap (λ m. list_view source (moved_list g m)) (sym (list_told other l))
    ∙ ap (list_view source) (moved.list g (list_view other l))
    ∙ list source (each_listing (span_by g) (list_view other l))

pub views-tell : ViewsTell
views-tell source t u same = sym (file_told source t) ∙ ap code_file same ∙ file_told source u

pub list-views-tell : ListViewsTell
list-views-tell source l m same = sym (list_told source l) ∙ ap code_listing same ∙ list_told source m
