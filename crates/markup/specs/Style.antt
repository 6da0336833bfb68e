-- The style of all pages. It has no <, so nothing in it ends it.
use Rattle.std.specs.Prelude.{ℕ, List, [], ◌∷◌, ◌++◌, codes}

-- rules, one after the other
abbrev pub rules_text : List (List ℕ) → List ℕ
rules_text [] = []
rules_text (rule ∷ rules) = rule ++ rules_text rules

-- the colours, light and dark
unfoldable pub colour_text : List ℕ
colour_text =
    rules_text
    (codes ":root{color-scheme:light dark;--ink:#1c2733;--dim:#64707d;--line:#d9dfe6;--soft:#eef1f4;--bg:#f5f7f9;--card:#fff;--ok:#1f7a4d;"
    ∷ codes "--blue:#2563a8;--no:#b45a06;--bad:#c21d2e;--grey:#98a4b0;--note:#fdfbf2;--hint:#75662b;--life:#9cc3e6;--life1:#c3a6e8;--out:#b9c3cd}"
    ∷ codes "@media (prefers-color-scheme:dark){:root{--ink:#e4e9ee;--dim:#9aa6b2;--line:#37424d;--soft:#27313b;--bg:#12181e;--card:#1a222a;--ok:#4cbb83;"
    ∷ codes "--blue:#6ca8ea;--no:#e8964a;--bad:#f0707c;--grey:#7c8894;--note:#25231a;--hint:#d3c07c;--life:#3f6d94;--life1:#7a5aa6;--out:#55616d}}"
    ∷ [])

-- the page, its tiles and its stories
unfoldable pub layout_text : List ℕ
layout_text =
    rules_text
    (codes "*{box-sizing:border-box}"
    ∷ codes "body{margin:0;background:var(--bg);color:var(--ink);font:14px/1.45 system-ui,\"Segoe UI\",Roboto,\"DejaVu Sans\",sans-serif}"
    ∷ codes "main{max-width:1500px;margin:0 auto;padding:18px 22px 40px}h1{font-size:21px;margin:0 0 2px}h2{font-size:16px;margin:26px 0 8px}"
    ∷ codes ".sub{color:var(--dim);margin:0 0 12px}.tiles{display:flex;flex-wrap:wrap;gap:10px}"
    ∷ codes ".tile{background:var(--card);border:1px solid var(--line);border-radius:8px;padding:8px 14px;min-width:118px}"
    ∷ codes ".tile b{display:block;font-size:20px;font-variant-numeric:tabular-nums}.tile span{color:var(--dim);font-size:12px}.tile.g b{color:var(--ok)}"
    ∷ codes ".tile.r b{color:var(--bad)}.card{background:var(--card);border:1px solid var(--line);border-radius:8px;padding:10px 12px;overflow:auto}"
    ∷ codes ".band{background:var(--card);border:1px solid var(--bad);color:var(--bad);border-radius:6px;padding:6px 12px;margin:10px 0}"
    ∷ codes "details{background:var(--card);border:1px solid var(--line);border-left:4px solid var(--grey);border-radius:6px;margin:5px 0}"
    ∷ codes "details.g{border-left-color:var(--ok)}details.b{border-left-color:var(--bad)}summary{cursor:pointer;padding:5px 10px}"
    ∷ codes "summary .n{color:var(--dim);font-size:12px;font-variant-numeric:tabular-nums;display:inline-block;min-width:11.5em}"
    ∷ codes "summary .t{font-weight:600;margin-right:10px}.g>summary .v{color:var(--ok)}.b>summary .v{color:var(--bad)}"
    ∷ codes "@media (max-width:700px){main{padding:12px 10px 30px}.m ol{min-width:300px}.m li{height:26px}summary .n{min-width:0;margin-right:8px}}"
    ∷ [])

-- the reasons of what failed, and the story that a link leads to
unfoldable pub reason_text : List ℕ
reason_text =
    rules_text
    (codes "h3{font-size:14px;margin:4px 0}.why{list-style:none;margin:0 0 8px;padding:0}.why li{padding-left:3.8em;text-indent:-3.8em}"
    ∷ codes ".why b{display:inline-block;min-width:3em;text-align:right;text-indent:0}.why .t{font-weight:600;margin:0 12px 0 10px}"
    ∷ codes ".why a{white-space:nowrap}a{color:var(--blue)}details:target{outline:3px solid var(--blue)}"
    ∷ [])

-- all that is not drawn
unfoldable pub content_text : List ℕ
content_text = layout_text ++ reason_text

-- the charts, their sentences and the words of answers
unfoldable pub chart_text : List ℕ
chart_text =
    rules_text
    (codes ".m{display:flex;padding:0 6px 8px;overflow-x:auto}.m>svg{flex:none}.m ol{list-style:none;margin:34px 0 0;padding:0;flex:1;min-width:420px}"
    ∷ codes ".m li{height:26px;line-height:26px;white-space:nowrap;overflow:hidden;text-overflow:ellipsis;font-size:12.5px;"
    ∷ codes "border-top:1px solid var(--soft);padding-left:6px}.m li:hover{background:var(--soft)}"
    ∷ codes ".m li.cm{color:var(--hint);font-style:italic;background:var(--note)}.late{color:var(--no)}"
    ∷ codes ".p{font-size:11px;border-radius:8px;padding:1px 7px;margin-right:6px;color:var(--card);background:var(--blue)}.p.up{background:var(--ok)}"
    ∷ codes ".p.no{background:var(--no)}.p.f{background:var(--bad)}.p.q{background:var(--grey)}"
    ∷ [])

-- what is drawn in charts and lanes
unfoldable pub drawing_text : List ℕ
drawing_text =
    rules_text
    (codes "svg{display:block}svg text{font:11px system-ui,\"DejaVu Sans\",sans-serif;fill:var(--ink)}svg .hd{font-weight:600}"
    ∷ codes "svg .c{font-size:10px;fill:var(--dim)}svg .l{font-size:10px}.L{stroke:var(--out);stroke-width:3;fill:none}"
    ∷ codes ".L.none{stroke:var(--line);stroke-dasharray:2 4}.L.out{stroke-dasharray:2 4}.L.k0{stroke:var(--life)}"
    ∷ codes ".L.k1{stroke:var(--life1)}.L.halt{stroke:var(--ink);stroke-width:6}"
    ∷ codes ".F.out{fill:var(--out);opacity:.5}.F.k0{fill:var(--life);opacity:.6}.F.k1{fill:var(--life1);opacity:.6}.F.halt{fill:var(--ink)}"
    ∷ codes ".K{stroke:var(--blue);stroke-width:2;fill:none}.K.up{stroke:var(--ok)}.K.no{stroke:var(--no)}.K.f{stroke:var(--bad)}.K.q{stroke:var(--grey)}"
    ∷ codes ".high{max-height:680px}.key{display:flex;gap:14px;flex-wrap:wrap;color:var(--dim);font-size:12px;margin:4px 0}"
    ∷ codes ".key span::before{content:'';display:inline-block;width:14px;height:8px;border-radius:2px;margin-right:5px;background:var(--blue)}"
    ∷ codes ".key .k0::before{background:var(--life)}.key .k1::before{background:var(--life1)}.key .out::before{background:var(--out)}"
    ∷ codes ".key .halt::before{background:var(--ink)}.key .up::before{background:var(--ok)}.key .no::before{background:var(--no)}"
    ∷ codes ".key .f::before{background:var(--bad)}.key .q::before{background:var(--grey)}.T{stroke:var(--hint);stroke-dasharray:6 3;fill:none}"
    ∷ codes ".A{stroke:var(--blue);stroke-width:1.6;fill:none}.A.up{stroke:var(--ok)}.A.no{stroke:var(--no);stroke-width:2.2}"
    ∷ codes ".A.f{stroke:var(--bad);stroke-width:2.4}.A.q{stroke:var(--grey)}.A.half{stroke:var(--no);stroke-dasharray:4 3}.B{fill:var(--blue)}"
    ∷ codes ".B.up{fill:var(--ok)}.B.no{fill:var(--no)}.B.f{fill:var(--bad)}.B.q{fill:var(--grey)}"
    ∷ [])

-- the map with its key: lines as thick as their class says, dashed where one way only, arrows, and nodes by what they were; and the table of nodes
unfoldable pub map_text : List ℕ
map_text =
    rules_text
    (codes ".W{stroke:var(--out);fill:none}.W.one{stroke-dasharray:5 4}.W.w2{stroke-width:1.8}.W.w3{stroke-width:2.6}.W.w4{stroke-width:3.4}"
    ∷ codes ".W.w5{stroke-width:4.2}.W.w6{stroke-width:5}svg .H{paint-order:stroke;stroke:var(--card);stroke-width:4px}"
    ∷ codes ".R{stroke:var(--blue);stroke-width:2;fill:none}.R.thin{stroke-width:1}.Z{fill:var(--blue)}marker{overflow:visible}"
    ∷ codes ".key .w::before{height:3px;background:var(--out)}"
    ∷ codes ".key .w1::before{height:3px;background:repeating-linear-gradient(90deg,var(--out) 0 5px,transparent 5px 9px)}"
    ∷ codes ".key .hop::before{width:0;height:0;border:5px solid transparent;border-left:10px solid var(--blue);border-right:0;background:none}"
    ∷ codes ".N{stroke:var(--grey);fill:var(--card)}.N.k0{fill:var(--life)}.N.k1{fill:var(--life1)}.N.halt{stroke:var(--ink);stroke-width:4}"
    ∷ codes "table{border-collapse:collapse;font-variant-numeric:tabular-nums}th,td{text-align:left;padding:1px 18px 1px 0}tr.b{color:var(--bad)}"
    ∷ [])

-- on paper: in landscape and smaller, so that lanes and sentences are whole, and no chart over two pages that fits on one
unfoldable pub print_text : List ℕ
print_text =
    rules_text
    (codes "@page{size:landscape;margin:10mm}@media print{body{zoom:.6;background:none;print-color-adjust:exact}.m,.card{overflow:visible}"
    ∷ codes ".m,.tile,.card,summary{break-inside:avoid}h2{break-after:avoid}.high{max-height:none}}"
    ∷ [])

abbrev pub style_text : List ℕ
style_text = colour_text ++ (content_text ++ (chart_text ++ (drawing_text ++ (map_text ++ print_text))))
