-- The words that name elements and attributes.
use Rattle.std.specs.Prelude.{ℕ, List, Bool, true, false, codes}
use Rattle.markup.specs.declared.names.Element.{Element}
use Rattle.markup.specs.declared.names.Element.TheVariants as E
use Rattle.markup.specs.declared.names.Attribute.{Attribute}
use Rattle.markup.specs.declared.names.Attribute.TheVariants as A

abbrev pub element_word : Element → List ℕ
element_word E.Html = codes "html"
element_word E.Head = codes "head"
element_word E.Meta = codes "meta"
element_word E.Title = codes "title"
element_word E.Style = codes "style"
element_word E.Script = codes "script"
element_word E.Body = codes "body"
element_word E.Main = codes "main"
element_word E.Header = codes "header"
element_word E.Section = codes "section"
element_word E.Nav = codes "nav"
element_word E.Heading1 = codes "h1"
element_word E.Heading2 = codes "h2"
element_word E.Heading3 = codes "h3"
element_word E.Paragraph = codes "p"
element_word E.Division = codes "div"
element_word E.Span = codes "span"
element_word E.Strong = codes "b"
element_word E.Link = codes "a"
element_word E.List = codes "ol"
element_word E.Item = codes "li"
element_word E.Table = codes "table"
element_word E.TableHead = codes "thead"
element_word E.TableBody = codes "tbody"
element_word E.Row = codes "tr"
element_word E.HeadCell = codes "th"
element_word E.Cell = codes "td"
element_word E.Details = codes "details"
element_word E.Summary = codes "summary"
element_word E.Button = codes "button"
element_word E.Input = codes "input"
element_word E.Label = codes "label"
element_word E.Select = codes "select"
element_word E.Choice = codes "option"
element_word E.Output = codes "output"
element_word E.Preformatted = codes "pre"
element_word E.Code = codes "code"
element_word E.Svg = codes "svg"
element_word E.Group = codes "g"
element_word E.Path = codes "path"
element_word E.Line = codes "line"
element_word E.Rectangle = codes "rect"
element_word E.Circle = codes "circle"
element_word E.Text = codes "text"
element_word E.Definitions = codes "defs"
element_word E.Marker = codes "marker"

abbrev pub attribute_word : Attribute → List ℕ
attribute_word A.Class = codes "class"
attribute_word A.Id = codes "id"
attribute_word A.Title = codes "title"
attribute_word A.Language = codes "lang"
attribute_word A.Charset = codes "charset"
attribute_word A.Name = codes "name"
attribute_word A.Content = codes "content"
attribute_word A.Equivalent = codes "http-equiv"
attribute_word A.Type = codes "type"
attribute_word A.Value = codes "value"
attribute_word A.Minimum = codes "min"
attribute_word A.Maximum = codes "max"
attribute_word A.Step = codes "step"
attribute_word A.Target = codes "href"
attribute_word A.For = codes "for"
attribute_word A.Role = codes "role"
attribute_word A.Label = codes "aria-label"
attribute_word A.Controls = codes "aria-controls"
attribute_word A.Hidden = codes "aria-hidden"
attribute_word A.Scope = codes "scope"
attribute_word A.Open = codes "open"
attribute_word A.Flight = codes "data-f"
attribute_word A.Node = codes "data-node"
attribute_word A.Kind = codes "data-k"
attribute_word A.Nodes = codes "data-n"
attribute_word A.Width = codes "width"
attribute_word A.Height = codes "height"
attribute_word A.ViewBox = codes "viewBox"
attribute_word A.Outline = codes "d"
attribute_word A.X = codes "x"
attribute_word A.Y = codes "y"
attribute_word A.StartX = codes "x1"
attribute_word A.StartY = codes "y1"
attribute_word A.EndX = codes "x2"
attribute_word A.EndY = codes "y2"
attribute_word A.CentreX = codes "cx"
attribute_word A.CentreY = codes "cy"
attribute_word A.Radius = codes "r"
attribute_word A.Anchor = codes "text-anchor"
attribute_word A.Orientation = codes "orient"
attribute_word A.ReferenceX = codes "refX"
attribute_word A.ReferenceY = codes "refY"
attribute_word A.MarkerWidth = codes "markerWidth"
attribute_word A.MarkerHeight = codes "markerHeight"
attribute_word A.MarkerEnd = codes "marker-end"

-- whether an element has no content, and is closed where it is opened
abbrev pub is_leaf : Element → Bool
is_leaf E.Circle = true
is_leaf E.Input = true
is_leaf E.Line = true
is_leaf E.Meta = true
is_leaf E.Path = true
is_leaf E.Rectangle = true
is_leaf element = false

-- whether the content of an element is no markup: a style or a script
abbrev pub is_raw : Element → Bool
is_raw E.Style = true
is_raw E.Script = true
is_raw element = false
