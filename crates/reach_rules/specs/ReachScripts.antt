-- Scripts of further reach, with what each answers.
use Rattle.std.specs.Prelude.{◌≡◌, ℕ, true, false, List, [], ◌∷◌, ◌++◌, Some, Ok, Err}
use Rattle.byteorder.specs.Endian.{big_bytes}
use Rattle.node_rules.specs.declared.heard.Heard.TheVariants.{Up, Relayed, Answered, Learned}
use Rattle.node_rules.specs.declared.heard.SentHow.TheVariants as sent
use Rattle.node_rules.specs.declared.refusal.Dropped.TheVariants.{NoRoute}
use Rattle.reach_rules.specs.declared.heard.CommandHeard.TheVariants as commands
use Rattle.reach_rules.specs.declared.heard.DiscoveryHeard.TheVariants.{Beacon, Beaconed}
use Rattle.reach_rules.specs.declared.refusal.ReachDropped.TheVariants.{Known, Blacklisted, NotAwaited, Old}
use Rattle.reach_rules.specs.declared.refusal.DiscoveryDropped.TheVariants.{NotScanning}
use Rattle.reach_rules.specs.declared.refusal.ChooseRefusal.TheVariants.{NoBeacon}
use Rattle.reach_rules.specs.ReachingNodes.{Plainly, OfCommand}
use Rattle.reach_rules.specs.SmallLines.{SmallLine, Doing, Word, Sends, Comes, Breaks, Passes, Broadcasts, Asks, Scans, Chooses, Sending, Hearing, Breaking}
use Rattle.reach_rules.specs.SmallLines.{Passing, Broadcasting, Asking, Discovering, Scanning, Choosing, unjoined, joined, near_to, line_of, words_of, flown_in}
use Rattle.reach_rules.specs.SmallLines.{discovery_octets}

-- # Words

-- a datagram of one octet
abbrev pub one_octet : ℕ → List ℕ
one_octet octet = octet ∷ []

-- what a send that waits answers, and what a frame led to
abbrev pub waiting : Word
waiting = Sending (Ok sent.Waiting)

abbrev pub answered : Word
answered = Hearing (Ok (Plainly Answered))

abbrev pub relayed : Word
relayed = Hearing (Ok (Plainly Relayed))

abbrev pub learned : Word
learned = Hearing (Ok (Plainly Learned))

-- a datagram was handed up
abbrev pub up_of : (from : ℕ) → List ℕ → Word
up_of from datagram = Hearing (Ok (Plainly (Up from 1 datagram)))

-- # Acknowledged replies

-- the coordinator and two meters, with checks on and with checks off
abbrev pub checked_line : SmallLine
checked_line = line_of true (joined 0 ∷ joined 1 ∷ joined 2 ∷ [])

abbrev pub unchecked_line : SmallLine
unchecked_line = line_of false (joined 0 ∷ joined 1 ∷ joined 2 ∷ [])

-- meter 1 acknowledges the reply of meter 2 after two seconds
abbrev pub acknowledged_late : List Doing
acknowledged_late =
    Sends 1 2 (one_octet 0xaa) ∷ Comes 1 2 1 ∷ Passes 2 ∷ Sends 1 0 (one_octet 0xbb) ∷ Comes 3 2 1 ∷ Comes 2 1 1
    ∷ Comes 4 2 1 ∷ Comes 5 2 1 ∷ Passes 300 ∷ Sends 1 0 (one_octet 0xcc) ∷ Comes 6 2 1 ∷ []

-- A neighbour that acknowledges a reply too late is not believed for 300 seconds, and its acknowledgement is not awaited any more.
unfoldable pub ALateNeighbourIsListed : Type 0
ALateNeighbourIsListed =
    (words_of checked_line acknowledged_late
    ≡ waiting ∷ answered ∷ Passing ∷ waiting ∷ Hearing (Err Blacklisted) ∷ learned ∷ up_of 1 (one_octet 0xaa)
    ∷ Hearing (Err NotAwaited) ∷ Passing ∷ waiting ∷ relayed ∷ [])
    × (flown_in checked_line acknowledged_late ≡ 7)

-- and in time
abbrev pub acknowledged_in_time : List Doing
acknowledged_in_time =
    Sends 1 2 (one_octet 0xaa) ∷ Comes 1 2 1 ∷ Comes 2 1 1 ∷ Comes 3 2 1 ∷ Comes 4 2 1 ∷ Passes 2
    ∷ Sends 1 0 (one_octet 0xbb) ∷ Comes 5 2 1 ∷ []

-- A neighbour that acknowledges a reply in time is believed.
unfoldable pub ANeighbourInTimeIsBelieved : Type 0
ANeighbourInTimeIsBelieved =
    (words_of checked_line acknowledged_in_time
    ≡ waiting ∷ answered ∷ learned ∷ up_of 1 (one_octet 0xaa) ∷ Hearing (Ok (OfCommand commands.Acked)) ∷ Passing
    ∷ waiting ∷ relayed ∷ [])
    × (flown_in checked_line acknowledged_in_time ≡ 6)

-- the same where checks are off
abbrev pub unacknowledged : List Doing
unacknowledged =
    Sends 1 2 (one_octet 0xaa) ∷ Comes 1 2 1 ∷ Passes 2 ∷ Sends 1 0 (one_octet 0xbb) ∷ Comes 3 2 1 ∷ Comes 2 1 1
    ∷ Comes 5 2 1 ∷ []

-- Where checks are off, no reply is acknowledged and every neighbour is believed.
unfoldable pub WithoutChecksAllAreBelieved : Type 0
WithoutChecksAllAreBelieved =
    (words_of unchecked_line unacknowledged
    ≡ waiting ∷ answered ∷ Passing ∷ waiting ∷ relayed ∷ learned ∷ up_of 1 (one_octet 0xaa) ∷ [])
    × (flown_in unchecked_line unacknowledged ≡ 5)

-- # Broadcasts

-- a broadcast of the coordinator, which meter 1 sends on
abbrev pub broadcast_twice : List Doing
broadcast_twice = Broadcasts 0 (one_octet 0xaa) ∷ Comes 1 1 1 ∷ Comes 1 2 1 ∷ Comes 2 2 1 ∷ Comes 2 0 1 ∷ []

-- the first broadcast of the coordinator was handed up
abbrev pub broadcast_up : Word
broadcast_up = Hearing (Ok (OfCommand (commands.Broadcast 0 0 (one_octet 0xaa))))

-- A broadcast goes on from each node that it comes to, and is handed up once at each; its sender hands it up never.
unfoldable pub BroadcastsGoOnAndEnd : Type 0
BroadcastsGoOnAndEnd =
    (words_of unchecked_line broadcast_twice
    ≡ Broadcasting (Ok tt) ∷ broadcast_up ∷ broadcast_up ∷ Hearing (Err Old) ∷ Hearing (Err Old) ∷ [])
    × (flown_in unchecked_line broadcast_twice ≡ 3)

-- # Beacons

-- the coordinator, two meters that have a route to it, and one that is not joined
abbrev pub three_agents : SmallLine
three_agents =
    line_of false (near_to 2 2 (near_to 1 5 (joined 0)) ∷ near_to 0 5 (joined 1) ∷ near_to 0 2 (joined 2) ∷ unjoined ∷ [])

-- meter 3 hears two agents at the same total
abbrev pub scanned : List Doing
scanned = Scans 3 ∷ Comes 1 1 1 ∷ Comes 1 2 4 ∷ Comes 2 3 1 ∷ Comes 3 3 4 ∷ []

-- and chooses
abbrev pub two_heard : List Doing
two_heard = scanned ++ (Chooses 3 1 ∷ Chooses 3 2 ∷ Chooses 3 3 ∷ [])

-- or hears the coordinator too
abbrev pub three_heard : List Doing
three_heard = scanned ++ (Comes 1 0 9 ∷ Comes 4 3 7 ∷ Comes 2 2 1 ∷ Chooses 3 3 ∷ [])

-- what the scan answers, with what comes after it
abbrev pub scanned_then : List Word → List Word
scanned_then rest =
    Scanning (Ok tt) ∷ Discovering (Ok Beacon) ∷ Discovering (Ok Beacon) ∷ Discovering (Ok Beaconed)
    ∷ Discovering (Ok Beaconed) ∷ rest

-- an agent is asked
abbrev pub asked : (address total : ℕ) → Word
asked address total = Choosing (Ok (record { address = address; total = total }))

-- A meter joins by the agents that it heard in the order of their totals, and of their addresses where totals are equal. A request has
-- 8 octets and a beacon 13.
unfoldable pub TheCheapestAgentIsChosen : Type 0
TheCheapestAgentIsChosen =
    (words_of three_agents two_heard ≡ scanned_then (asked 1 6 ∷ asked 2 6 ∷ Choosing (Err NoBeacon) ∷ []))
    × (flown_in three_agents two_heard ≡ 5)
    × (discovery_octets three_agents two_heard 1 ≡ Some (big_bytes 8 0x030800ffffffff07))
    × (discovery_octets three_agents two_heard 2 ≡ Some (big_bytes 13 0x0080001d780100ff8f00000005))

-- The coordinator is an agent at no cost but that of the link; a node that has an address takes no beacon.
unfoldable pub TheCoordinatorIsAnAgent : Type 0
TheCoordinatorIsAnAgent =
    (words_of three_agents three_heard
    ≡ scanned_then (Discovering (Ok Beacon) ∷ Discovering (Ok Beaconed) ∷ Discovering (Err NotScanning) ∷ asked 0 7 ∷ []))
    × (flown_in three_agents three_heard ≡ 5)
    × (discovery_octets three_agents three_heard 4 ≡ Some (big_bytes 13 0x0080001d780000ffcf00000000))

-- # Path requests

-- three nodes in a row
abbrev pub three_in_a_row : SmallLine
three_in_a_row =
    line_of false (near_to 1 1 (joined 0) ∷ near_to 2 1 (near_to 0 1 (joined 1)) ∷ near_to 1 1 (joined 2) ∷ [])

-- the coordinator has found a route to meter 2, and asks for the path
abbrev pub path_sought : List Doing
path_sought =
    Sends 0 2 (one_octet 0xaa) ∷ Comes 1 1 1 ∷ Comes 2 2 1 ∷ Comes 3 1 1 ∷ Comes 4 0 1 ∷ Asks 0 2 ∷ []

-- what that answers, with what comes after it
abbrev pub sought_then : List Word → List Word
sought_then rest = waiting ∷ relayed ∷ answered ∷ relayed ∷ learned ∷ Asking (Ok tt) ∷ rest

-- the ask goes to its target, and the tell comes back
abbrev pub path_answered : List Doing
path_answered = path_sought ++ (Comes 6 1 1 ∷ Comes 7 2 1 ∷ Comes 8 1 1 ∷ Comes 9 0 1 ∷ [])

-- A node that asks for a path is answered the nodes of the way, from itself to the target.
unfoldable pub APathIsAnswered : Type 0
APathIsAnswered =
    (words_of three_in_a_row path_answered
    ≡ sought_then (Hearing (Ok (OfCommand commands.Relayed)) ∷ Hearing (Ok (OfCommand commands.Answered))
    ∷ Hearing (Ok (OfCommand commands.Relayed)) ∷ Hearing (Ok (OfCommand (commands.Path (0 ∷ 1 ∷ 2 ∷ [])))) ∷ []))
    × (flown_in three_in_a_row path_answered ≡ 9)

-- the link after the first hop breaks before the ask comes there
abbrev pub path_broken : List Doing
path_broken = path_sought ++ (Breaks 1 2 ∷ Comes 6 1 1 ∷ [])

-- An ask goes no further where no route leads on.
unfoldable pub ABrokenPathIsNotAnswered : Type 0
ABrokenPathIsNotAnswered =
    (words_of three_in_a_row path_broken ≡ sought_then (Breaking ∷ Hearing (Err (Known NoRoute)) ∷ []))
    × (flown_in three_in_a_row path_broken ≡ 6)
