-- Small designs that worked rows ask about. Before each stands the same in the manner of Verilog, with the levels of its variables.
use Rattle.std.specs.Prelude.{ℕ, List, [], ◌∷◌, replicate}
use Rattle.language.specs.Syntax.{Design, Cmd, constant, variable, binary, equals, idle, choice, assign, port, register, fixed, looked_up}

-- the table A has 1 at 2 and at 3, and 0 elsewhere; the table B has 1 at 1, and 0 elsewhere
abbrev pub table_A : List ℕ
table_A = 0 ∷ 0 ∷ 1 ∷ 1 ∷ replicate 12 0

abbrev pub table_B : List ℕ
table_B = 0 ∷ 1 ∷ replicate 14 0

--   input [1:0] w;  // variable 0, of level 0
--   input [7:0] p;  // variable 1, of level A[w]
--   reg [7:0] r;    // variable 2, of level 0
--   always @(posedge clock) if (w == n) r <= p;
abbrev pub taking : (n : ℕ) → Design
taking n = record {
  tables = table_A ∷ [];
  variables =
      record { kind = port; width = 2; label = fixed 0; reset = 0 }
      ∷ record { kind = port; width = 8; label = looked_up 0 0; reset = 0 }
      ∷ record { kind = register; width = 8; label = fixed 0; reset = 0 }
      ∷ [];
  settled = [];
  clocked = choice (binary 1 equals (variable 2 0 0) (constant 2 n)) (assign 2 (variable 8 1 3) 0) idle ∷ [];
}

--   input h;  // variable 0, of level 1
--   reg s;    // variable 1, of level B[s]
--   always @(posedge clock) block
abbrev pub remembering : (block : Cmd) → Design
remembering block = record {
  tables = table_B ∷ [];
  variables =
      record { kind = port; width = 1; label = fixed 1; reset = 0 }
      ∷ record { kind = register; width = 1; label = looked_up 0 1; reset = 0 }
      ∷ [];
  settled = [];
  clocked = block ∷ [];
}

--   if (h) s <= 1;
abbrev pub in_one_branch : Cmd
in_one_branch = choice (variable 1 0 0) (assign 1 (constant 1 1) 0) idle

--   if (h) s <= 1; else s <= 1;
abbrev pub in_both_branches : Cmd
in_both_branches = choice (variable 1 0 0) (assign 1 (constant 1 1) 0) (assign 1 (constant 1 1) 1)

--   input w;      // variable 0, of level 0
--   reg [7:0] r;  // variable 1, of level B[w]
abbrev pub clearing : Design
clearing = record {
  tables = table_B ∷ [];
  variables =
      record { kind = port; width = 1; label = fixed 0; reset = 0 }
      ∷ record { kind = register; width = 8; label = looked_up 0 0; reset = 0 }
      ∷ [];
  settled = [];
  clocked = [];
}
