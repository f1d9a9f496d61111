-- The place of each record, computed: scripts with the kind and the place of every record, in their order. Then meanings, which forget places.
use mathlib.Core.Path.{◌≡◌, refl}
use mathlib.Core.Bool.{Bool, true, false, ◌&&◌}
use mathlib.Core.List.{List, [], ◌∷◌, map}
use Prim.Native.Nat.{ℕ, zero, suc}
use Prim.Native.String.{String}
use lib.Dec.{T, eqb}
use lib.ListN.{drop, get_or}
use Rattle.tokens.specs.Text.{bytes, same}
use Rattle.grammar.specs.Sizes.{record_width}
use Rattle.grammar.specs.Trees.{Tree, node, nil, ◌▹◌, fields, none, meaning}
use Rattle.grammar.specs.Grammar.{Edition, one, two}
use Rattle.grammar.specs.Script.{Entry, read_script, nodes}
use Rattle.grammar.specs.Words.{words_of}
use Rattle.grammar.specs.Computing.{computing}
use Rattle.grammar.proofs.Examples.{kind_names, nth, entries, lists}

-- the statements of a script; with one day counter
read : Edition → String → List Entry
unfolding computing entries lists
read e s = entries (read_script e (lists "" "USD\nEUR\n" "ACT/365\n") (bytes s))

-- so many records are of the kinds that are named, and their eighth words are the places
are : ℕ → List ℕ → List (String × ℕ) → Bool
unfolding computing nth
are zero ws [] = true
are zero ws (r ∷ rs) = false
are (suc n) ws [] = false
are (suc n) ws (r ∷ rs) =
    same (bytes (nth kind_names (get_or ws 0 0))) (bytes r.0) && (eqb (get_or ws 7 0) r.1 && are n (drop record_width ws) rs)

-- each script of a table has the records that are said in an edition, and no others
check : Edition → List (String × List (String × ℕ)) → Bool
unfolding computing read are
check e [] = true
check e (r ∷ rs) = elim (are (nodes (read e r.0)) (words_of (read e r.0)) r.1) [ true ↦ check e rs | false ↦ false ]

abbrev placed : List (String × List (String × ℕ))
placed =
    -- a node without a left part begins at its own first token: its name, its word, its number, its quote, its bracket, its sign
    ("a;", ("Variable", 0) ∷ [])
    ∷ ("  # first\n  ab;", ("Variable", 0) ∷ [])
    ∷ ("1;", ("Constant", 0) ∷ [])
    ∷ ("true; +false;", ("True", 0) ∷ ("False", 1) ∷ [])
    ∷ ("\"s\";", ("String", 0) ∷ [])
    ∷ ("x = [1, a];", ("Variable", 0) ∷ ("Constant", 5) ∷ ("Variable", 8) ∷ ("List", 4) ∷ ("Assign", 0) ∷ [])
    ∷ ("+min(1, (2));", ("Constant", 5) ∷ ("Constant", 9) ∷ ("Min", 1) ∷ [])
    ∷ ("(Spot(\"EUR\"));", ("Spot", 1) ∷ [])
    ∷ ("x = Spot(\"A\",\"2024-02-29\");", ("Variable", 0) ∷ ("EquitySpot", 4) ∷ ("Assign", 0) ∷ [])
    ∷ ("+Df(\"2024-02-29\",\"c\");", ("Df", 1) ∷ [])
    ∷ ("(RateIndex(\"n\",\"2024-02-29\",\"2024-03-01\"));", ("RateIndex", 1) ∷ [])
    ∷ ("x = cvg(\"2024-02-29\", (\"2024-03-01\"), \"ACT/365\");", ("Variable", 0) ∷ ("String", 8) ∷ ("String", 23) ∷ ("String", 38) ∷ ("Cvg", 4) ∷ ("Assign", 0) ∷ [])
    ∷ ("y = (pays a b on \"2024-02-29\");", ("Variable", 0) ∷ ("Variable", 10) ∷ ("Variable", 12) ∷ ("Pays", 5) ∷ ("Assign", 0) ∷ [])
    ∷ ("if (a) { b; } else { c; }", ("Variable", 4) ∷ ("Variable", 9) ∷ ("Variable", 21) ∷ ("If", 0) ∷ [])
    ∷ ("for v in (a) { if b { } }", ("Variable", 10) ∷ ("Variable", 18) ∷ ("If", 15) ∷ ("ForEach", 0) ∷ [])
    -- a negated constant and a UnaryMinus begin at the minus
    ∷ ("-1;", ("Constant", 0) ∷ [])
    ∷ ("y = - 1;", ("Variable", 0) ∷ ("Constant", 4) ∷ ("Assign", 0) ∷ [])
    ∷ ("-a;", ("Variable", 1) ∷ ("UnaryMinus", 0) ∷ [])
    ∷ ("--1;", ("Constant", 1) ∷ ("UnaryMinus", 0) ∷ [])
    ∷ ("a*-b;", ("Variable", 0) ∷ ("Variable", 3) ∷ ("UnaryMinus", 2) ∷ ("Multiply", 0) ∷ [])
    -- parentheses round a node and a plus before it are not its own text
    ∷ ("(a);", ("Variable", 1) ∷ [])
    ∷ ("+a;", ("Variable", 1) ∷ [])
    ∷ ("+(+a);", ("Variable", 3) ∷ [])
    ∷ ("(a+b);", ("Variable", 1) ∷ ("Variable", 3) ∷ ("Add", 1) ∷ [])
    ∷ ("+(a*b);", ("Variable", 2) ∷ ("Variable", 4) ∷ ("Multiply", 2) ∷ [])
    -- but they are of the text where a left part begins, and a chain with it
    ∷ ("(a+b)*c;", ("Variable", 1) ∷ ("Variable", 3) ∷ ("Add", 1) ∷ ("Variable", 6) ∷ ("Multiply", 0) ∷ [])
    ∷ ("+a*b;", ("Variable", 1) ∷ ("Variable", 3) ∷ ("Multiply", 0) ∷ [])
    ∷ ("((a))+b;", ("Variable", 2) ∷ ("Variable", 6) ∷ ("Add", 0) ∷ [])
    ∷ ("a+b+c;", ("Variable", 0) ∷ ("Variable", 2) ∷ ("Add", 0) ∷ ("Variable", 4) ∷ ("Add", 0) ∷ [])
    ∷ ("(a)-b*(c)/d;", ("Variable", 1) ∷ ("Variable", 4) ∷ ("Variable", 7) ∷ ("Multiply", 4) ∷ ("Variable", 10) ∷ ("Divide", 4) ∷ ("Subtract", 0) ∷ [])
    ∷ ("-a*b;", ("Variable", 1) ∷ ("UnaryMinus", 0) ∷ ("Variable", 3) ∷ ("Multiply", 0) ∷ [])
    ∷ ("-(a)*b;", ("Variable", 2) ∷ ("UnaryMinus", 0) ∷ ("Variable", 5) ∷ ("Multiply", 0) ∷ [])
    ∷ ("-1+a;", ("Constant", 0) ∷ ("Variable", 3) ∷ ("Add", 0) ∷ [])
    ∷ ("+a**b**c;", ("Variable", 1) ∷ ("Variable", 4) ∷ ("Pow", 0) ∷ ("Variable", 7) ∷ ("Pow", 0) ∷ [])
    ∷ ("-(2)**2;", ("Constant", 2) ∷ ("UnaryMinus", 0) ∷ ("Constant", 6) ∷ ("Pow", 0) ∷ [])
    ∷ ("x = (a) == (b);", ("Variable", 0) ∷ ("Variable", 5) ∷ ("Variable", 12) ∷ ("Equal", 4) ∷ ("Assign", 0) ∷ [])
    ∷ ("(a) and b or +c;", ("Variable", 1) ∷ ("Variable", 8) ∷ ("And", 0) ∷ ("Variable", 14) ∷ ("Or", 0) ∷ [])
    ∷ ("(true)**(false)\n*2;", ("True", 1) ∷ ("False", 9) ∷ ("Pow", 0) ∷ ("Constant", 17) ∷ ("Multiply", 0) ∷ [])
    ∷ ("Spot(\"A\")-Df(\"2024-02-29\");", ("EquitySpot", 0) ∷ ("Df", 10) ∷ ("Subtract", 0) ∷ [])
    -- postfixes begin where the thing does that they stand behind
    ∷ ("a[0].mean();", ("Variable", 0) ∷ ("Constant", 2) ∷ ("Index", 0) ∷ ("Mean", 0) ∷ [])
    ∷ ("[1][0];", ("Constant", 1) ∷ ("List", 0) ∷ ("Constant", 4) ∷ ("Index", 0) ∷ [])
    ∷ ("+a[0];", ("Variable", 1) ∷ ("Constant", 3) ∷ ("Index", 1) ∷ [])
    ∷ ("-a.std();", ("Variable", 1) ∷ ("Std", 1) ∷ ("UnaryMinus", 0) ∷ [])
    ∷ ("pays [1,2].mean();", ("Constant", 6) ∷ ("Constant", 8) ∷ ("List", 5) ∷ ("Mean", 5) ∷ ("Pays", 0) ∷ [])
    ∷ ("b+a[0][(1)].append(2);", ("Variable", 0) ∷ ("Variable", 2) ∷ ("Constant", 4) ∷ ("Index", 2) ∷ ("Constant", 8) ∷ ("Index", 2) ∷ ("Constant", 19) ∷ ("Append", 2) ∷ ("Add", 0) ∷ [])
    -- an assignment begins at its name, and so do both variables of a compound form and the node between them; a pays at its word
    ∷ ("x = a;", ("Variable", 0) ∷ ("Variable", 4) ∷ ("Assign", 0) ∷ [])
    ∷ ("x += (a);", ("Variable", 0) ∷ ("Variable", 0) ∷ ("Variable", 6) ∷ ("Add", 0) ∷ ("Assign", 0) ∷ [])
    ∷ ("x -= a; x *= a; x /= a;", ("Variable", 0) ∷ ("Variable", 0) ∷ ("Variable", 5) ∷ ("Subtract", 0) ∷ ("Assign", 0) ∷ ("Variable", 0) ∷ ("Variable", 0) ∷ ("Variable", 5) ∷ ("Multiply", 0) ∷ ("Assign", 0) ∷ ("Variable", 0) ∷ ("Variable", 0) ∷ ("Variable", 5) ∷ ("Divide", 0) ∷ ("Assign", 0) ∷ [])
    ∷ ("x pays 1;", ("Variable", 0) ∷ ("Variable", 0) ∷ ("Constant", 7) ∷ ("Pays", 2) ∷ ("Add", 0) ∷ ("Assign", 0) ∷ [])
    ∷ ("for v in a { v -= 2; }", ("Variable", 9) ∷ ("Variable", 13) ∷ ("Variable", 13) ∷ ("Constant", 18) ∷ ("Subtract", 13) ∷ ("Assign", 13) ∷ ("ForEach", 0) ∷ [])
    -- each statement counts from its own first byte
    ∷ ("a; +b - -c;", ("Variable", 0) ∷ ("Variable", 1) ∷ ("Variable", 6) ∷ ("UnaryMinus", 5) ∷ ("Subtract", 0) ∷ [])
    ∷ ("(a);\n # between\n (b)+c;", ("Variable", 1) ∷ ("Variable", 1) ∷ ("Variable", 4) ∷ ("Add", 0) ∷ [])
    ∷ []

each_place : T (check one placed)
unfolding check
each_place = tt

abbrev placed_two : List (String × List (String × ℕ))
placed_two =
    -- edition two: each power of a chain begins where its own left part's text does, parentheses included
    ("a**b;", ("Variable", 0) ∷ ("Variable", 3) ∷ ("Pow", 0) ∷ [])
    ∷ ("a**(b)**c;", ("Variable", 0) ∷ ("Variable", 4) ∷ ("Variable", 8) ∷ ("Pow", 3) ∷ ("Pow", 0) ∷ [])
    ∷ ("((a))**((b))**c**d;", ("Variable", 2) ∷ ("Variable", 9) ∷ ("Variable", 14) ∷ ("Variable", 17) ∷ ("Pow", 14) ∷ ("Pow", 7) ∷ ("Pow", 0) ∷ [])
    -- a sign vanishes, or negates, before the whole power
    ∷ ("+a**b;", ("Variable", 1) ∷ ("Variable", 4) ∷ ("Pow", 1) ∷ [])
    ∷ ("+a**b**c;", ("Variable", 1) ∷ ("Variable", 4) ∷ ("Variable", 7) ∷ ("Pow", 4) ∷ ("Pow", 1) ∷ [])
    ∷ ("-2**2;", ("Constant", 1) ∷ ("Constant", 4) ∷ ("Pow", 1) ∷ ("UnaryMinus", 0) ∷ [])
    ∷ ("-(2)**2;", ("Constant", 2) ∷ ("Constant", 6) ∷ ("Pow", 1) ∷ ("UnaryMinus", 0) ∷ [])
    ∷ ("(2)**-(3)**2;", ("Constant", 1) ∷ ("Constant", 7) ∷ ("Constant", 11) ∷ ("Pow", 6) ∷ ("UnaryMinus", 5) ∷ ("Pow", 0) ∷ [])
    ∷ ("2**-3;", ("Constant", 0) ∷ ("Constant", 3) ∷ ("Pow", 0) ∷ [])
    ∷ ("2**+a**b+1;", ("Constant", 0) ∷ ("Variable", 4) ∷ ("Variable", 7) ∷ ("Pow", 4) ∷ ("Pow", 0) ∷ ("Constant", 9) ∷ ("Add", 0) ∷ [])
    -- what stands outside the power begins at the sign
    ∷ ("+2**2*3;", ("Constant", 1) ∷ ("Constant", 4) ∷ ("Pow", 1) ∷ ("Constant", 6) ∷ ("Multiply", 0) ∷ [])
    ∷ ("-2**2*3;", ("Constant", 1) ∷ ("Constant", 4) ∷ ("Pow", 1) ∷ ("UnaryMinus", 0) ∷ ("Constant", 6) ∷ ("Multiply", 0) ∷ [])
    -- each level of `and` and `or` begins where its own first operand does
    ∷ ("a or (b) and c and d or e;", ("Variable", 0) ∷ ("Variable", 6) ∷ ("Variable", 13) ∷ ("And", 5) ∷ ("Variable", 19) ∷ ("And", 5) ∷ ("Or", 0) ∷ ("Variable", 24) ∷ ("Or", 0) ∷ [])
    ∷ ("(a or b) and c or d;", ("Variable", 1) ∷ ("Variable", 6) ∷ ("Or", 1) ∷ ("Variable", 13) ∷ ("And", 0) ∷ ("Variable", 18) ∷ ("Or", 0) ∷ [])
    ∷ ("x\n+= 1;", ("Variable", 0) ∷ ("Variable", 0) ∷ ("Constant", 5) ∷ ("Add", 0) ∷ ("Assign", 0) ∷ [])
    ∷ []

each_place_two : T (check two placed_two)
unfolding check
each_place_two = tt

-- ---- the same tree by content

-- what the statements of a script mean
meant : String → List Tree
unfolding computing read
meant s = map (λ e. meaning e.tree) (read one s)

-- the same words at other places, with parentheses and a plus more: the same meaning
reflowed : meant "for v in a { y = Spot(\"A\")+Df(\"2024-02-29\",\"c\")**-1; } pays \"s\" in \"EUR\""
    ≡ meant "for\nv in ( a ) {\n  y = +(Spot (\"A\")) + Df( \"2024-02-29\", \"c\" ) ** - 1;\n}\n pays\n\"s\" in \"EUR\" ;"
unfolding meant computing
reflowed = refl

-- what is named is kept, and whether a curve is there; places are not
a_meaning : (meant " x = Df(\"2024-02-29\");" ≡ node 37 0 [] none (node 1 0 (120 ∷ []) none nil ▹ node 34 0 [] (fields 738945 0 0 0) nil ▹ nil) ∷ [])
    × (meant "Df(\"2024-02-29\",\"\");" ≡ node 34 0 [] (fields 738945 1 0 0) nil ∷ [])
    × (meant "RateIndex(\"n\",\"2024-02-29\",\"2024-03-01\");" ≡ node 35 0 (110 ∷ []) (fields 0 0 738945 738946) nil ∷ [])
unfolding meant computing
a_meaning = (refl, refl, refl)
