-- "The case file": little-endian numbers, the sections in order without gaps, the trailer; and the case that a file holds.
use Rattle.std.specs.Prelude.{ℕ, zero, suc, ◌+◌, ◌-◌, ◌*◌, Bool, cond, not, ◌||◌, List, [], ◌∷◌, eqb, ltb, length, get_or}
use Rattle.paper.specs.declared.Loop.{Loop}
use Rattle.paper.specs.declared.Trailer.{Trailer}
use Rattle.paper.specs.Lists.{some}
use Rattle.paper.specs.Machines.{in_range}
use Rattle.paper.specs.Cases.{Row, Fact, Case, unlimited, size, range_of}
use Rattle.paper.specs.Ceilings.{most_nodes, most_edges, most_loops, most_facts}
use Rattle.paper.specs.Records as Records

-- "Little-endian." (Past its end a file reads as 0.)
abbrev pub u8_at : List ℕ → ℕ → ℕ
u8_at f p = get_or f p 0

unfoldable pub u16_at : List ℕ → ℕ → ℕ
u16_at f p = u8_at f p + 256 * u8_at f (p + 1)

unfoldable pub u32_at : List ℕ → ℕ → ℕ
u32_at f p = u16_at f p + 65536 * u16_at f (p + 2)

-- "The last 32 bytes point back": where they begin.
abbrev pub end_at : List ℕ → ℕ
end_at f = length f - Records.trailer_size

-- "16-bit numbers of nodes, edges, loops, facts; policy, ways, sets, version …, one byte each"
unfoldable pub trailer_of : List ℕ → Trailer
trailer_of f =
    record {
      nodes = u16_at f (end_at f + Records.nodes_field);
      edges = u16_at f (end_at f + Records.edges_field);
      loops = u16_at f (end_at f + Records.loops_field);
      facts = u16_at f (end_at f + Records.facts_field);
      policy = u8_at f (end_at f + Records.policy_field);
      ways = u8_at f (end_at f + Records.ways_field);
      sets = u8_at f (end_at f + Records.sets_field);
      version = u8_at f (end_at f + Records.version_field);
    }

-- "the four letters QMBT"
abbrev pub letters : List ℕ
letters = 81 ∷ 77 ∷ 66 ∷ 84 ∷ []

unfoldable pub bad_letter : List ℕ → ℕ → Bool
bad_letter f i = not (eqb (u8_at f (end_at f + Records.letters_field + i)) (get_or letters i 0))

-- 2: "letters or version wrong"
unfoldable pub bad_letters : List ℕ → Bool
bad_letters f = some (bad_letter f) (length letters) || Records.bad_version (u8_at f (end_at f + Records.version_field))

-- 3: "policy, ways or sets out of range"
unfoldable pub bad_cache : Trailer → Bool
bad_cache trailer = not (in_range trailer.policy trailer.ways trailer.sets)

-- 4: "Nodes 1 to 1,024, edges 0 to 4,096, loops 0 to 64, facts 0 to 256"
unfoldable pub bad_numbers : Trailer → Bool
bad_numbers trailer = ltb trailer.nodes 1 || (ltb most_nodes trailer.nodes || (ltb most_edges trailer.edges || (ltb most_loops trailer.loops || ltb most_facts trailer.facts)))

-- "Sections in order, without gaps, from offset 0: nodes …; edges …; loops …; facts": where each begins, and where one of its records stands
abbrev pub node_place : ℕ → ℕ
node_place v = Records.node_size * v

abbrev pub edges_at : Trailer → ℕ
edges_at trailer = node_place trailer.nodes

abbrev pub edge_place : Trailer → ℕ → ℕ
edge_place trailer i = edges_at trailer + Records.edge_size * i

abbrev pub loops_at : Trailer → ℕ
loops_at trailer = edge_place trailer trailer.edges

abbrev pub loop_place : Trailer → ℕ → ℕ
loop_place trailer j = loops_at trailer + Records.loop_size trailer.version * j

abbrev pub facts_at : Trailer → ℕ
facts_at trailer = loop_place trailer trailer.loops

-- 5: "an offset wrong, or the facts would start past the trailer"
unfoldable pub bad_offsets : List ℕ → Trailer → Bool
bad_offsets f trailer =
    not (eqb (u32_at f (end_at f)) 0)
    || (not (eqb (u32_at f (end_at f + Records.edges_offset)) (edges_at trailer))
    || (not (eqb (u32_at f (end_at f + Records.loops_offset)) (loops_at trailer)) || (not (eqb (u32_at f (end_at f + Records.facts_offset)) (facts_at trailer)) || ltb (end_at f) (facts_at trailer))))

-- "the number and seven slots": slot i of the row that stands at p
abbrev pub slot_place : ℕ → ℕ → ℕ
slot_place p i = p + Records.slots_field + Records.bits16 * i

abbrev pub row_at : List ℕ → ℕ → Row
row_at f p = record { number = u16_at f p; slot = λ i. u16_at f (slot_place p i) }

-- where the head of the fact that stands at p ends, and its row j stands
abbrev pub head_end : ℕ → ℕ
head_end p = p + Records.head_size

abbrev pub row_place : ℕ → ℕ → ℕ
row_place p j = head_end p + Records.row_size * j

-- "facts (16-bit loop number or 65,535 for the whole graph, 16-bit block, 16-bit l, then 16 bytes a row)"
abbrev pub fact_at : List ℕ → ℕ → Fact
fact_at f p =
    record {
      scope = u16_at f p;
      block = u16_at f (p + Records.block_field);
      limit = u16_at f (p + Records.limit_field);
      row = λ j. row_at f (row_place p j);
    }

unfoldable pub node_at : List ℕ → ℕ → ℕ
node_at f v = u16_at f (node_place v)

-- "Version 1 is read as without W"; else it is what is read as W.
unfoldable pub visits_by : ℕ → ℕ → ℕ
visits_by version W = cond (eqb version Records.without_w) unlimited W

module _ (f : List ℕ) (trailer : Trailer) where
  unfoldable pub from_at : ℕ → ℕ
  from_at i = u16_at f (edge_place trailer i)

  unfoldable pub to_at : ℕ → ℕ
  to_at i = u16_at f (edge_place trailer i + Records.to_field)

  unfoldable pub loop_at : ℕ → Loop
  loop_at j =
      record {
        first = u16_at f (loop_place trailer j);
        last = u16_at f (loop_place trailer j + Records.last_field);
        bound = u32_at f (loop_place trailer j + Records.bound_field);
        visits = visits_by trailer.version (u32_at f (loop_place trailer j + Records.visits_field));
      }

  -- where the fact that stands at p ends
  unfoldable pub fact_end : ℕ → ℕ
  fact_end p = row_place p (size (range_of trailer.nodes loop_at (fact_at f p).scope))

  -- where fact i stands
  unfoldable pub fact_place : ℕ → ℕ
  fact_place zero = facts_at trailer
  fact_place (suc i) = fact_end (fact_place i)

  -- the case that the file holds, by its trailer
  unfoldable pub case_of : Case
  case_of =
      record {
        policy = trailer.policy;
        ways = trailer.ways;
        sets = trailer.sets;
        nodes = trailer.nodes;
        edges = trailer.edges;
        loops = trailer.loops;
        facts = trailer.facts;
        block = node_at f;
        from = from_at;
        to = to_at;
        loop = loop_at;
        fact = λ i. fact_at f (fact_place i);
      }

abbrev pub read_case : List ℕ → Case
read_case f = case_of f (trailer_of f)
