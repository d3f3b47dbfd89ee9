use Rattle.std.proofs.Common.{◌≡◌, ◌∙◌, ◌++◌, [], ◌∷◌, codes, List, ℕ, append_assoc, refl, sym, ap}
use Rattle.std.specs.Prelude.{decimal}
use Rattle.serde_json.specs.Data.{Data, array, string}
use Rattle.serde_json.specs.View.{items_of, view}
use Rattle.serde_json.specs.Written.{compact_text, has_float}
use Rattle.serde_json.proofs.OnLiterals.{serde_json_on_literals}
use Rattle.meson_script.specs.Listings.{listings_text}
use Rattle.meson_rewrite.specs.Lines.{line}
use Rattle.meson_rewrite.specs.Objects.{done_members}
use Rattle.meson_script.specs.declared.session.Report.{Report}
use Rattle.meson_rewrite.proofs.objects.done_line.Goals as goal

abbrev head : List ℕ → ℕ → List ℕ
head changes files = codes "{\"changes\":" ++ (changes ++ (codes ",\"files\":" ++ (decimal files ++ codes ",\"info\":")))

abbrev tail : ℕ → List ℕ → List ℕ
tail splices title = codes ",\"splices\":" ++ (decimal splices ++ (codes ",\"title\":" ++ (title ++ codes "}\n")))

-- the parts between brackets, one after another
parts : (p c q f r i s n t w u : List ℕ) → (p ++ (c ++ (q ++ (f ++ r)))) ++ (i ++ (s ++ (n ++ (t ++ (w ++ u))))) ≡ p ++ (c ++ (q ++ (f ++ (r ++ (i ++ (s ++ (n ++ (t ++ (w ++ u)))))))))
parts p c q f r i s n t w u = simp append_assoc

ended : (p c q f r i s n t w u e : List ℕ) → (p ++ (c ++ (q ++ (f ++ (r ++ (i ++ (s ++ (n ++ (t ++ (w ++ u)))))))))) ++ e ≡ p ++ (c ++ (q ++ (f ++ (r ++ (i ++ (s ++ (n ++ (t ++ (w ++ (u ++ e))))))))))
ended p c q f r i s n t w u e = simp append_assoc

joined : (changes : Data) (info : List Data) (report : Report)
    → head (compact_text changes) report.files ++ (compact_text (array (items_of info)) ++ tail report.splices (compact_text (string report.title))) ≡ line (compact_text (done_members changes info report))
unfolding serde_json_on_literals
joined changes info report =
    let c = compact_text changes in
    let i = compact_text (array (items_of info)) in
    let w = compact_text (string report.title) in
    let q = codes ",\"files\":" in
    let r = codes ",\"info\":" in
    let s = codes ",\"splices\":" in
    let t = codes ",\"title\":" in
    parts (codes "{\"changes\":") c q (decimal report.files) r i s (decimal report.splices) t w (codes "}\n")
    ∙ sym (ended (codes "{\"changes\":") c q (decimal report.files) r i s (decimal report.splices) t w (codes "}") (10 ∷ []))

pub returns : goal.returns
returns c = λ listings is.
    let report = c.args.report in
    let changes = compact_text (view c.args.changes.now) in
    let title = compact_text (string report.title) in
    let info = compact_text (array (items_of listings)) in
    let first : c.into_bytes-text.result.items ≡ head changes report.files =
    ap (λ v. v.items) c.into_bytes-text.ensures.value ∙ c.in_ok-before.ensures.ok ∙ ap (λ t. head t report.files) (c.in_ok-changes.ensures.text c.requires) in
    let its = c.in_ok-try_from_str.ensures ∙ ap string c.get.ensures in
    let last : c.as_bytes.result.now ≡ tail report.splices title =
    c.as_bytes.ensures.value ∙ c.in_ok-after.ensures.ok ∙ ap (tail report.splices) (c.in_ok-quoted.ensures.text (ap has_float its) ∙ ap compact_text its) in
    let rest : c.extend_from_slice.new.self.items ≡ info ++ tail report.splices title =
    c.in_ok-extend_from_slice.ensures.items ∙ ap (λ t. t ++ c.as_bytes.result.now) (c.in_ok-rest.ensures listings is) ∙ ap (λ t. info ++ t) last in
    c.in_ok-append.ensures.items
    ∙ ap (λ t. t ++ c.extend_from_slice.new.self.items) first
    ∙ ap (λ t. head changes report.files ++ t) rest
    ∙ joined (view c.args.changes.now) listings report
