-- The graph of the outstanding requests, in Graphviz's language: a node for each, whose shape tells how it stands, in the cluster of its call and of its chain; and arrows from each that waits, to the member of its chain before it, and to the least request for whose drain it waits, or, by Linux's rules, to the least that isn't deferred. Our own rule.
use Rattle.std.specs.Prelude.{ℕ, zero, suc, Bool, not, ◌||◌, nat_lt, nat_le, List, [], ◌++◌, length, count_by, codes, Option, Some, None, is_some, if◌then◌else◌}
use Rattle.std.specs.Fmt.{decimal}
use Rattle.uring_entry.specs.Flags.{io_drain, io_link, io_hardlink, skip_success}
use Rattle.uring_entry.specs.Layout.{Sqe, has, user_data_of}
use Rattle.uring_entry.specs.Requests.{Requests, entry_outstanding, is_last}
use Rattle.uring_linux.specs.LinuxRequests.{LinuxRequests}
use Rattle.uring_rules.specs.Rules.{why_of}
use Rattle.uring_entry.specs.declared.why.Why.{Why}
use Rattle.uring_entry.specs.declared.why.Why.TheVariants.{Runs, IsDoomed, Waits}
use Rattle.uring_entry.specs.declared.why.Since.{Since}
use Rattle.uring_entry.specs.declared.why.Since.TheVariants.{SameGroup}
use Rattle.uring_trace.specs.Reasons.{why_text}
use Rattle.uring_text.specs.Forms.{operation_text}

-- Where a request stands.

-- its call, numbered from 0: so many calls had closed before it was accepted
abbrev pub call_of : Requests → ℕ → ℕ
call_of r n = count_by (λ cut. nat_le cut n) r.cuts

-- the first member of its chain: itself, if a chain ends before it, and else that of the request before
abbrev pub first_of : Requests → ℕ → ℕ
first_of r zero = 0
first_of r (suc n) = if is_last r n then suc n else first_of r n

-- whether its chain has another member
abbrev pub is_chained : Requests → ℕ → Bool
is_chained r n = not (is_last r n) || nat_lt (first_of r n) n

-- the last outstanding member of its chain before it
abbrev pub member_before : Requests → ℕ → Option ℕ
member_before r zero = None
member_before r (suc n) =
    if is_last r n then None else if is_some (entry_outstanding r n) then Some n else member_before r n

-- The text of a node.

-- an ellipse runs, an octagon is doomed, a box waits, and a diamond may start
abbrev pub shape_of : Why → List ℕ
shape_of Runs = codes "ellipse"
shape_of (IsDoomed doom) = codes "octagon"
shape_of (Waits m since) = codes "box"
shape_of _ = codes "diamond"

-- the name of a flag after a comma, if it is set
abbrev pub flag_text : ℕ → List ℕ → Sqe → List ℕ
flag_text flag name e = if has flag e then codes ", " ++ name else []

-- the flags that are set; 16 is IOSQE_ASYNC
abbrev pub flags_text : Sqe → List ℕ
flags_text e =
    flag_text io_drain (codes "drain") e ++ flag_text io_link (codes "link") e ++ flag_text io_hardlink (codes "hard link") e ++ flag_text 16 (codes "async") e
    ++ flag_text skip_success (codes "skip success") e

-- number, operation and flags, user data, and how it stands and why, a line each
abbrev pub label_text : ℕ → Sqe → Why → List ℕ
label_text n e why =
    decimal n ++ codes ": " ++ operation_text e ++ flags_text e ++ codes "\\nuser data " ++ decimal (user_data_of e) ++ codes "\\n"
    ++ why_text why

abbrev pub node_text : ℕ → Sqe → Why → List ℕ
node_text n e why =
    decimal n ++ codes " [shape=" ++ shape_of why ++ codes ", label=\"" ++ label_text n e why ++ codes "\"];"

-- a node in the cluster of its chain, if that has another member
abbrev pub in_chain : Bool → ℕ → List ℕ → List ℕ
in_chain chained first node =
    if chained then codes "subgraph cluster_chain_" ++ decimal first ++ codes " { label=\"chain from " ++ decimal first ++ codes "\"; " ++ node ++ codes " }" else node

-- the line of a node, in the cluster of its call
abbrev pub placed_text : ℕ → List ℕ → List ℕ
placed_text call node =
    codes "  subgraph cluster_call_" ++ decimal call ++ codes " { label=\"call " ++ decimal call ++ codes "\"; " ++ node ++ codes " }\n"

-- the line of a request with this entry, where it stands
abbrev pub line_text : (is_linux : Bool) → LinuxRequests → ℕ → Option Sqe → List ℕ
line_text is_linux l n None = []
line_text is_linux l n (Some e) =
    placed_text (call_of l.requests n) (in_chain (is_chained l.requests n) (first_of l.requests n) (node_text n e (why_of is_linux l n)))

-- the line of a request, if it is outstanding
abbrev pub row_text : (is_linux : Bool) → LinuxRequests → ℕ → List ℕ
row_text is_linux l n = line_text is_linux l n (entry_outstanding l.requests n)

-- the lines of the first requests, so many
abbrev pub nodes_below : (is_linux : Bool) → LinuxRequests → ℕ → List ℕ
nodes_below is_linux l zero = []
nodes_below is_linux l (suc n) = nodes_below is_linux l n ++ row_text is_linux l n

-- The text of arrows.

-- to the member of its chain before it that is outstanding
abbrev pub chain_arrow : ℕ → Option ℕ → List ℕ
chain_arrow n None = []
chain_arrow n (Some m) =
    codes "  " ++ decimal n ++ codes " -> " ++ decimal m ++ codes ";\n"

-- to the least request that it waits for, unless that is a member of its chain
abbrev pub drain_arrow : ℕ → ℕ → Since → List ℕ
drain_arrow n m SameGroup = []
drain_arrow n m since =
    codes "  " ++ decimal n ++ codes " -> " ++ decimal m ++ codes " [style=dashed];\n"

-- both, of a request that waits
abbrev pub arrows_text : ℕ → Option ℕ → Why → List ℕ
arrows_text n before (Waits m since) = chain_arrow n before ++ drain_arrow n m since
arrows_text n before _ = []

-- the arrows from the first requests, so many
abbrev pub arrows_below : (is_linux : Bool) → LinuxRequests → ℕ → List ℕ
arrows_below is_linux l zero = []
arrows_below is_linux l (suc n) =
    arrows_below is_linux l n ++ arrows_text n (member_before l.requests n) (why_of is_linux l n)

-- the graph
abbrev pub graph_of : (is_linux : Bool) → LinuxRequests → List ℕ
graph_of is_linux l =
    codes "digraph requests {\n" ++ nodes_below is_linux l (length l.requests.accepted) ++ arrows_below is_linux l (length l.requests.accepted) ++ codes "}\n"
