-- The keys of a description, and which keys each table may have.
use Rattle.std.specs.Prelude.{List, [], ◌∷◌, ℕ, codes}
use Rattle.plan_tables.specs.declared.keys.Key.{Key}
use Rattle.plan_tables.specs.declared.keys.Key.TheVariants as keys
use Rattle.plan_tables.specs.declared.keys.KeySet.{KeySet}
use Rattle.plan_tables.specs.declared.keys.KeySet.TheVariants as sets

-- a key as it stands in the text
abbrev pub key_word : Key → List ℕ
key_word keys.Title = codes "title"
key_word keys.Seed = codes "seed"
key_word keys.For = codes "for"
key_word keys.Place = codes "place"
key_word keys.Air = codes "air"
key_word keys.Joining = codes "joining"
key_word keys.Readings = codes "readings"
key_word keys.Rotation = codes "rotation"
key_word keys.Care = codes "care"
key_word keys.At = codes "at"
key_word keys.Kind = codes "kind"
key_word keys.Meters = codes "meters"
key_word keys.Coordinator = codes "coordinator"
key_word keys.Reach = codes "reach"
key_word keys.Loss = codes "loss"
key_word keys.LossStep = codes "loss_step"
key_word keys.Cost = codes "cost"
key_word keys.Wide = codes "wide"
key_word keys.High = codes "high"
key_word keys.Risers = codes "risers"
key_word keys.Floors = codes "floors"
key_word keys.Flats = codes "flats"
key_word keys.Links = codes "links"
key_word keys.Rate = codes "rate"
key_word keys.Repeats = codes "repeats"
key_word keys.BreakAfter = codes "break_after"
key_word keys.Backoffs = codes "backoffs"
key_word keys.MinBe = codes "min_be"
key_word keys.MaxBe = codes "max_be"
key_word keys.JitterMs = codes "jitter_ms"
key_word keys.AckLoss = codes "ack_loss"
key_word keys.Duplicates = codes "duplicates"
key_word keys.Overhear = codes "overhear"
key_word keys.Collisions = codes "collisions"
key_word keys.How = codes "how"
key_word keys.From = codes "from"
key_word keys.Within = codes "within"
key_word keys.Retry = codes "retry"
key_word keys.Tries = codes "tries"
key_word keys.Every = codes "every"
key_word keys.Way = codes "way"
key_word keys.Octets = codes "octets"
key_word keys.Answered = codes "answered"
key_word keys.Refresh = codes "refresh"
key_word keys.RefreshEvery = codes "refresh_every"
key_word keys.AtOnce = codes "at_once"
key_word keys.Times = codes "times"
key_word keys.Orders = codes "orders"
key_word keys.Gap = codes "gap"
key_word keys.Order = codes "order"
key_word keys.RejoinAfter = codes "rejoin_after"
key_word keys.What = codes "what"
key_word keys.Node = codes "node"
key_word keys.Nodes = codes "nodes"
key_word keys.Write = codes "write"
key_word keys.Leaves = codes "leaves"
key_word keys.Index = codes "index"
key_word keys.Count = codes "count"
key_word keys.Later = codes "later"

-- the keys that a table may have: of a place and of an incident by its kind
abbrev pub keys_of : KeySet → List Key
keys_of sets.Top = keys.Title ∷ keys.Seed ∷ keys.For ∷ keys.Place ∷ keys.Air ∷ keys.Joining ∷ keys.Readings ∷ keys.Rotation ∷ keys.Care ∷ keys.At ∷ []
keys_of sets.Street = keys.Kind ∷ keys.Meters ∷ keys.Coordinator ∷ keys.Reach ∷ keys.Loss ∷ keys.LossStep ∷ keys.Cost ∷ []
keys_of sets.Grid = keys.Kind ∷ keys.Meters ∷ keys.Wide ∷ keys.Reach ∷ keys.Loss ∷ keys.LossStep ∷ keys.Cost ∷ []
keys_of sets.Tower = keys.Kind ∷ keys.Risers ∷ keys.Floors ∷ keys.Flats ∷ keys.Reach ∷ keys.Loss ∷ keys.LossStep ∷ keys.Cost ∷ []
keys_of sets.Scatter = keys.Kind ∷ keys.Meters ∷ keys.Wide ∷ keys.High ∷ keys.Reach ∷ keys.Loss ∷ keys.LossStep ∷ keys.Cost ∷ []
keys_of sets.Matrix = keys.Kind ∷ keys.Links ∷ keys.Cost ∷ []
keys_of sets.Air = keys.Rate ∷ keys.Repeats ∷ keys.BreakAfter ∷ keys.Backoffs ∷ keys.MinBe ∷ keys.MaxBe
    ∷ keys.JitterMs ∷ keys.AckLoss ∷ keys.Duplicates ∷ keys.Overhear ∷ keys.Collisions ∷ []
keys_of sets.Joining = keys.How ∷ keys.From ∷ keys.Within ∷ keys.Retry ∷ keys.Tries ∷ []
keys_of sets.Readings = keys.From ∷ keys.Every ∷ keys.Within ∷ keys.Way ∷ keys.Octets ∷ keys.Answered
    ∷ keys.Tries ∷ keys.Retry ∷ keys.Refresh ∷ keys.RefreshEvery ∷ keys.AtOnce ∷ keys.Times ∷ []
keys_of sets.Rotation = keys.AtOnce ∷ keys.Retry ∷ keys.Tries ∷ keys.Orders ∷ keys.Gap ∷ keys.Order ∷ []
keys_of sets.Care = keys.RejoinAfter ∷ []
keys_of sets.Power = keys.At ∷ keys.What ∷ keys.Node ∷ keys.Nodes ∷ keys.Meters ∷ keys.For ∷ []
keys_of sets.Torn = keys.At ∷ keys.What ∷ keys.Node ∷ keys.Nodes ∷ keys.Meters ∷ keys.Write ∷ keys.Leaves ∷ keys.For ∷ []
keys_of sets.Noise = keys.At ∷ keys.What ∷ keys.Nodes ∷ keys.Loss ∷ keys.For ∷ []
keys_of sets.LinkDown = keys.At ∷ keys.What ∷ keys.Nodes ∷ keys.For ∷ []
keys_of sets.Kick = keys.At ∷ keys.What ∷ keys.Node ∷ keys.Nodes ∷ keys.Meters ∷ []
keys_of sets.Rekey = keys.At ∷ keys.What ∷ keys.Index ∷ []
keys_of sets.Replay = keys.At ∷ keys.What ∷ keys.Node ∷ keys.Nodes ∷ keys.Count ∷ []
keys_of sets.Delay = keys.At ∷ keys.What ∷ keys.Node ∷ keys.For ∷ keys.Later ∷ []
keys_of sets.FalseJoins = keys.At ∷ keys.What ∷ keys.Nodes ∷ []

-- shut, so that a search over all keys is not computed where it is only named
unfoldable pub all_tables : List KeySet
all_tables =
    sets.Top ∷ sets.Street ∷ sets.Grid ∷ sets.Tower ∷ sets.Scatter ∷ sets.Matrix ∷ sets.Air ∷ sets.Joining ∷ sets.Readings ∷ sets.Rotation
    ∷ sets.Care ∷ sets.Power ∷ sets.Torn ∷ sets.Noise ∷ sets.LinkDown ∷ sets.Kick ∷ sets.Rekey ∷ sets.Replay ∷ sets.Delay ∷ sets.FalseJoins ∷ []

-- where the keys of a table stand
abbrev pub set_word : KeySet → List ℕ
set_word sets.Top = codes "outside all tables"
set_word sets.Street = codes "in [place] with kind = \"street\""
set_word sets.Grid = codes "in [place] with kind = \"grid\""
set_word sets.Tower = codes "in [place] with kind = \"tower\""
set_word sets.Scatter = codes "in [place] with kind = \"scatter\""
set_word sets.Matrix = codes "in [place] with kind = \"matrix\""
set_word sets.Air = codes "in [air]"
set_word sets.Joining = codes "in [joining]"
set_word sets.Readings = codes "in [readings]"
set_word sets.Rotation = codes "in [rotation]"
set_word sets.Care = codes "in [care]"
set_word sets.Power = codes "in [[at]] with what = \"power\""
set_word sets.Torn = codes "in [[at]] with what = \"torn\""
set_word sets.Noise = codes "in [[at]] with what = \"noise\""
set_word sets.LinkDown = codes "in [[at]] with what = \"link\""
set_word sets.Kick = codes "in [[at]] with what = \"kick\""
set_word sets.Rekey = codes "in [[at]] with what = \"rekey\""
set_word sets.Replay = codes "in [[at]] with what = \"replay\""
set_word sets.Delay = codes "in [[at]] with what = \"delay\""
set_word sets.FalseJoins = codes "in [[at]] with what = \"false_joins\""
