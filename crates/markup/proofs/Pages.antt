-- A page closes what it opens.
use Rattle.std.proofs.Common.{◌≡◌, ℕ, List, [], ◌∷◌, ◌++◌, codes, refl, sym, ap, ◌∙◌, append_assoc, append-nil}
use Rattle.markup.specs.declared.names.Element.TheVariants as E
use Rattle.markup.specs.declared.names.Attribute.TheVariants as A
use Rattle.markup.specs.HtmlReader.{IsContent, IsRaw, reached}
use Rattle.markup.specs.ElementTexts.{attribute_text, element_text, end_tag, tag_start}
use Rattle.markup.proofs.Contents.{contents_join, elements_are_content, raw_elements_are_content}
use Rattle.markup.specs.Markups.{Words, Leaf, Inside, with_text}
use Rattle.markup.proofs.Markups.{markups_are_content}
use Rattle.markup.specs.Style.{chart_text, colour_text, content_text, drawing_text, layout_text, map_text, print_text, reason_text, style_text}
use Rattle.markup.specs.Frames.{body, body_start, charset, doctype, head, head_content, html_start, policy, style, title_text, viewport}
use Rattle.markup.specs.FrameLaws.{EndsMeet, PagesNest}

-- # A page nests

-- the style does not end itself
style_is_raw : IsRaw style_text
unfolding IsRaw reached colour_text content_text layout_text reason_text chart_text drawing_text map_text print_text
style_is_raw os = refl

style_nests : IsContent style
unfolding style
style_nests = raw_elements_are_content E.Style [] style_text refl style_is_raw

charset_nests : IsContent charset
unfolding charset
charset_nests = markups_are_content (Leaf E.Meta (with_text A.Charset (codes "utf-8") ∷ []))

policy_nests : IsContent policy
unfolding policy
policy_nests =
    markups_are_content
    (Leaf E.Meta
    (with_text A.Equivalent (codes "Content-Security-Policy")
    ∷ with_text A.Content (codes "default-src 'none'; style-src 'unsafe-inline'") ∷ []))

viewport_nests : IsContent viewport
unfolding viewport
viewport_nests =
    markups_are_content
    (Leaf E.Meta (with_text A.Name (codes "viewport") ∷ with_text A.Content (codes "width=device-width, initial-scale=1") ∷ []))

titles_nest : (title : List ℕ) → IsContent (title_text title)
unfolding title_text
titles_nest title = markups_are_content (Inside E.Title [] (Words title))

head_contents_nest : (title : List ℕ) → IsContent (head_content title)
unfolding head_content
head_contents_nest title =
    contents_join charset (policy ++ (viewport ++ (title_text title ++ style))) charset_nests
    (contents_join policy (viewport ++ (title_text title ++ style)) policy_nests
    (contents_join viewport (title_text title ++ style) viewport_nests (contents_join (title_text title) style (titles_nest title) style_nests)))

heads_nest : (title : List ℕ) → IsContent (head title)
unfolding head
heads_nest title = elements_are_content E.Head [] (head_content title) refl (head_contents_nest title)

bodies_nest : (content : List ℕ) → IsContent content → IsContent (body content)
bodies_nest content is =
    elements_are_content E.Body [] (element_text E.Main [] content) refl (elements_are_content E.Main [] content refl is)

pub pages_nest : PagesNest
pages_nest title content is =
    elements_are_content E.Html (with_text A.Language (codes "en") ∷ []) (head title ++ body content) refl
    (contents_join (head title) (body content) (heads_nest title) (bodies_nest content is))

-- # Its ends meet

-- what follows the start of the content, and the end of the page
closed : (tm content em eb eh : List ℕ)
    → ((tm ++ (62 ∷ (content ++ em))) ++ eb) ++ eh ≡ tm ++ (62 ∷ (content ++ (em ++ (eb ++ eh))))
closed tm content em eb eh =
    append_assoc (tm ++ (62 ∷ (content ++ em))) eb eh
    ∙ append_assoc tm (62 ∷ (content ++ em)) (eb ++ eh)
    ∙ ap (λ (x : List ℕ). tm ++ (62 ∷ x)) (append_assoc content em (eb ++ eh))

-- the head, and what follows it
followed : (h tb tm content em eb eh : List ℕ)
    → (h ++ (tb ++ (62 ∷ ((tm ++ (62 ∷ (content ++ em))) ++ eb)))) ++ eh ≡ h ++ (tb ++ (62 ∷ (tm ++ (62 ∷ (content ++ (em ++ (eb ++ eh)))))))
followed h tb tm content em eb eh =
    append_assoc h (tb ++ (62 ∷ ((tm ++ (62 ∷ (content ++ em))) ++ eb))) eh
    ∙ ap (λ (x : List ℕ). h ++ x)
    (append_assoc tb (62 ∷ ((tm ++ (62 ∷ (content ++ em))) ++ eb)) eh
    ∙ ap (λ (x : List ℕ). tb ++ (62 ∷ x)) (closed tm content em eb eh))

-- the start, and what follows it
started : (d th at h tb tm rest : List ℕ)
    → (d ++ ((th ++ (at ++ (62 ∷ []))) ++ (h ++ (tb ++ (62 ∷ (tm ++ (62 ∷ []))))))) ++ rest
    ≡ d ++ (th ++ (at ++ (62 ∷ (h ++ (tb ++ (62 ∷ (tm ++ (62 ∷ rest))))))))
started d th at h tb tm rest = simp append_assoc

meeting : (d th at h tb tm content em eb eh : List ℕ)
    → (d ++ ((th ++ (at ++ (62 ∷ []))) ++ (h ++ (tb ++ (62 ∷ (tm ++ (62 ∷ []))))))) ++ (content ++ (em ++ (eb ++ eh)))
    ≡ d ++ (th ++ ((at ++ []) ++ (62 ∷ ((h ++ (tb ++ (62 ∷ ((tm ++ (62 ∷ (content ++ em))) ++ eb)))) ++ eh))))
meeting d th at h tb tm content em eb eh =
    started d th at h tb tm (content ++ (em ++ (eb ++ eh)))
    ∙ sym
    (ap (λ (x : List ℕ). d ++ (th ++ (x ++ (62 ∷ ((h ++ (tb ++ (62 ∷ ((tm ++ (62 ∷ (content ++ em))) ++ eb)))) ++ eh))))) (append-nil at)
    ∙ ap (λ (x : List ℕ). d ++ (th ++ (at ++ (62 ∷ x)))) (followed h tb tm content em eb eh))

pub ends_meet : EndsMeet
unfolding doctype html_start body_start
ends_meet title content =
    meeting doctype (tag_start E.Html) (attribute_text A.Language (codes "en")) (head title) (tag_start E.Body) (tag_start E.Main)
    content (end_tag E.Main) (end_tag E.Body) (end_tag E.Html)
