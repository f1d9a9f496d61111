-- The paper's examples, computed: proved readings, readings to rule out, the listing.
use Rattle.std.specs.Prelude.{if◌then◌else◌}
use mathlib.Core.Path.{◌≡◌, refl}
use mathlib.Core.Bool.{Bool, true, false, ◌&&◌}
use mathlib.Core.List.{List, [], ◌∷◌, ◌++◌}
use Prim.Native.Nat.{ℕ, zero, suc, ◌+◌}
use Prim.Native.String.{String}
use lib.Dec.{T, eqb, leb}
use lib.ListN.{take, drop, length}
use Rattle.tokens.specs.Text.{bytes, same}
use Rattle.tokens.specs.Places.{line, column}
use Rattle.tokens.specs.Names.{Lists}
use Rattle.grammar.specs.Sizes.{record_room, statement_room}
use Rattle.grammar.specs.Trees.{Tree, Trees, node, nil, ◌▹◌, fields}
use Rattle.grammar.specs.Grammar.{Edition, one, two}
use Rattle.grammar.specs.Script.{Entry, Outcome, accepted, refused, read_script, reading, nodes, tokens_of}
use Rattle.grammar.specs.Words.{words_of, directory_of}
use Rattle.grammar.specs.Computing.{computing}

-- ---- trees as the paper writes them

-- the names of the 39 kinds
abbrev pub kind_names : List String
kind_names =
    "" ∷ "Variable" ∷ "Constant" ∷ "True" ∷ "False" ∷ "String" ∷ "List" ∷ "UnaryMinus" ∷ "Add" ∷ "Subtract" ∷ "Multiply" ∷ "Divide" ∷ "Pow" ∷ "Equal" ∷ "NotEqual"
    ∷ "Superior" ∷ "Inferior" ∷ "SuperiorOrEqual" ∷ "InferiorOrEqual" ∷ "And" ∷ "Or" ∷ "Ln" ∷ "Exp" ∷ "Min" ∷ "Max" ∷ "Cvg" ∷ "Fif" ∷ "Range" ∷ "Index" ∷ "Append"
    ∷ "Mean" ∷ "Std" ∷ "Spot" ∷ "EquitySpot" ∷ "Df" ∷ "RateIndex" ∷ "Pays" ∷ "Assign" ∷ "If" ∷ "ForEach" ∷ []

unfoldable pub nth : List String → ℕ → String
nth [] n = ""
nth (s ∷ ss) zero = s
nth (s ∷ ss) (suc n) = nth ss n

-- a comma, where more parts follow
comma : Trees → List ℕ → List ℕ
comma nil r = r
comma (t ▹ ts) r = 44 ∷ r

-- a tree: a variable, a number or a string by its bytes in the statement, anything else by its name and parts;
-- behind an If's name its first_else
mutual
  unfolding nth computing comma

  shown : List ℕ → Tree → List ℕ
  shown bs (node k p s (fields a b c d) ts) =
      if eqb k 1 then take b (drop a bs)
      else if eqb k 2 then (if leb 2147483648 a then 45 ∷ take d (drop c bs) else take d (drop c bs))
      else bytes (nth kind_names k) ++ ((if eqb k 38 then (48 + a) ∷ [] else []) ++ (40 ∷ shown_all bs ts))

  shown_all : List ℕ → Trees → List ℕ
  shown_all bs nil = 41 ∷ []
  shown_all bs (t ▹ ts) = shown bs t ++ comma ts (shown_all bs ts)

-- the statements of a script, a space after each
shown_entries : List ℕ → List Entry → List ℕ
unfolding shown
shown_entries bs [] = []
shown_entries bs (e ∷ es) = shown (drop e.start bs) e.tree ++ (32 ∷ shown_entries bs es)

-- what is said of a script: how it is read, or where it is refused
data Said : Type 0 where
  reads : String → Said
  refuses : ℕ → ℕ → Said

holds : List ℕ → Outcome → Said → Bool
unfolding shown_entries computing
holds bs (accepted es) (reads s) = same (shown_entries bs es) (bytes s)
holds bs (accepted es) (refuses n p) = false
holds bs (refused n p) (reads s) = false
holds bs (refused n p) (refuses m q) = eqb n m && eqb p q

-- ---- the program's own lists

-- no reserved words; USD, EUR; no day counters
own : Lists
unfolding computing
own = record { reserved = []; currencies = bytes "USD\nEUR\n"; counters = [] }

-- every script of a table is read in an edition as is said
check : Edition → List (String × Said) → Bool
unfolding holds computing own
check e [] = true
check e (r ∷ rs) = let bs = bytes r.0 in elim (holds bs (read_script e own bs) r.1) [ true ↦ check e rs | false ↦ false ]

-- ---- proved readings, of edition one

-- P1 to P12, in this order
abbrev proved : List (String × Said)
proved =
    ("x = 2**3**2;", reads "Assign(x,Pow(Pow(2,3),2)) ")
    ∷ ("x = -2**2;", reads "Assign(x,Pow(-2,2)) ")
    ∷ ("x = -(2)**2;", reads "Assign(x,Pow(UnaryMinus(2),2)) ")
    ∷ ("x = a or b and c;", reads "Assign(x,And(Or(a,b),c)) ")
    ∷ ("x = min(1,2,);", reads "Assign(x,Min(1,2)) ")
    ∷ ("x\n= 1;", refuses 8 2)
    ∷ ("pays 1 2;", reads "Pays(1,2) ")
    ∷ ("pays (a)[0];", reads "Pays(a,List(0)) ")
    ∷ ("if x { pays 1; } else { }", reads "If2(x,Pays(1)) ")
    ∷ ("x = 1", refuses 8 5)
    ∷ ("pays 1", reads "Pays(1) ")
    ∷ ("", reads "")
    ∷ []

-- a call's name too
abbrev broken : List (String × Said)
broken = ("ln\n= 1;", refuses 8 3) ∷ ("Spot\n= 1;", refuses 8 5) ∷ []

readings : T (check one proved)
unfolding check
readings = tt

readings₁ : T (check one broken)
unfolding check
readings₁ = tt

-- the paper's run examples, and others, in either edition
abbrev others : List (String × Said)
others =
    ("x = a == b == c;", refuses 8 11)
    ∷ ("x = 1.2.3;", refuses 5 4)
    ∷ ("x = ((((((((((((((((((((((((((((((((1))))))))))))))))))))))))))))))));", reads "Assign(x,1) ")
    ∷ ("x = (((((((((((((((((((((((((((((((((1)))))))))))))))))))))))))))))))));", refuses 15 36)
    ∷ ("x = 9007199254740992;", reads "Assign(x,9007199254740992) ")
    ∷ ("x = 9007199254740993;", refuses 6 4)
    ∷ ("x = 0.1234567890123456;", refuses 6 4)
    ∷ ("pays x\ny = 1;", refuses 8 9)
    ∷ ("x pays;", reads "Assign(x,Add(x,Pays())) ")
    ∷ ("x += 1; y = \"s;", refuses 4 12)
    ∷ ("x = @;", refuses 3 4)
    ∷ ("x = a ! b;", refuses 3 6)
    ∷ ("x = a.foo(1);", refuses 10 6)
    ∷ ("x = a.append(1).mean()[0];", reads "Assign(x,Index(Mean(Append(a,1)),0)) ")
    ∷ ("x = min(1);", refuses 10 4)
    ∷ ("x = cvg(\"2020-01-01\",(\"2020-01-02\"),\"A\");", refuses 13 4)
    ∷ ("x = cvg(\"2020-01-01\",\"2021-02-29\",\"A\");", refuses 11 4)
    ∷ ("x = cvg(1,\"2021-02-29\",\"A\");", refuses 14 4)
    ∷ ("x = Spot(\"EUR\") + Spot(\"EUR\", \"USD\", \"2024-02-29\") * Spot(\"AAPL\");", reads "Assign(x,Add(Spot(),Multiply(Spot(),EquitySpot()))) ")
    ∷ ("x = Df(\"2024-02-30\");", refuses 11 7)
    ∷ ("x = RateIndex(\"n\",\"2024-02-29\",\"2024-13-01\");", refuses 11 31)
    ∷ ("for v in range(1,2) { x += v; }  pays 1 on \"2024-02-29\" in \"EUR\"\n y = - - 1;", reads "ForEach(Range(1,2),Assign(x,Add(x,v))) Pays(1) Assign(y,UnaryMinus(-1)) ")
    ∷ ("x = ---------------------------------1;", reads "Assign(x,UnaryMinus(UnaryMinus(UnaryMinus(UnaryMinus(UnaryMinus(UnaryMinus(UnaryMinus(UnaryMinus(UnaryMinus(UnaryMinus(UnaryMinus(UnaryMinus(UnaryMinus(UnaryMinus(UnaryMinus(UnaryMinus(UnaryMinus(UnaryMinus(UnaryMinus(UnaryMinus(UnaryMinus(UnaryMinus(UnaryMinus(UnaryMinus(UnaryMinus(UnaryMinus(UnaryMinus(UnaryMinus(UnaryMinus(UnaryMinus(UnaryMinus(UnaryMinus(-1))))))))))))))))))))))))))))))))) ")
    ∷ ("x = ----------------------------------1;", refuses 15 36)
    ∷ ("x = +++++++++++++++++++++++++++++++++1;", refuses 15 36)
    ∷ ("x = [[[[[[[[[[[[[[[[[[[[[[[[[[[[[[[[[1;", refuses 15 36)
    ∷ ("x = min(min(min(min(min(min(min(min(min(min(min(min(min(min(min(min(min(min(min(min(min(min(min(min(min(min(min(min(min(min(min(min(min(1;", refuses 15 135)
    ∷ ("if a { if b { pays 1; } } else { x = 2; y = 3; }", reads "If2(a,If0(b,Pays(1)),Assign(x,2),Assign(y,3)) ")
    ∷ ("if a { pays 1 }", refuses 8 14)
    ∷ ("if a { x = 1; ", refuses 8 14)
    ∷ ("x = pays 1 2 on \"2024-01-01\";", reads "Assign(x,Pays(1,2)) ")
    ∷ ("x = pays 1 on 2;", refuses 8 14)
    ∷ ("x = 1; // c\n# d\n\n y -= a[1] == b;", reads "Assign(x,1) Assign(y,Subtract(y,Equal(Index(a,1),b))) ")
    ∷ ("x = 1e5;", refuses 8 5)
    ∷ ("x = .5;", refuses 8 4)
    ∷ ("x = 1.;", reads "Assign(x,1.) ")
    ∷ ("ln = 1;", reads "Assign(ln,1) ")
    ∷ ("x = ln;", refuses 8 6)
    ∷ ("x = a then b;", refuses 8 6)
    ∷ (";", refuses 8 0)
    ∷ ("x = fif(1,2,3);", refuses 10 4)
    ∷ ("x = [1,2,].mean();", reads "Assign(x,Mean(List(1,2))) ")
    ∷ ("x = [,];", refuses 8 5)
    ∷ ("x = Spot(\"EUR\",\"XXX\");", refuses 12 15)
    ∷ ("x = Spot(\"EUR\",);", refuses 8 15)
    ∷ ("x = 1 and 2 or not 3;", refuses 8 15)
    ∷ []

readings₂ : T (check one others) × T (check two others)
unfolding check
readings₂ = (tt, tt)

-- what is easily misread, in either edition
abbrev closely : List (String × Said)
closely =
    ("RateIndex(\"a\",\"bad\",\"bad\" 1);", refuses 8 26)
    ∷ ("RateIndex(\"a\",\"bad\",\"bad\");", refuses 11 14)
    ∷ ("Df(\"bad\" 1);", refuses 11 3)
    ∷ ("Spot(\"EUR\",\"2020-01-01\");", refuses 12 11)
    ∷ ("Spot(\"AAPL\",\"EUR\");", refuses 11 12)
    ∷ ("Spot((\"USD\"));", refuses 8 5)
    ∷ ("x = 1 # c", refuses 8 9)
    ∷ ("x = 1\n", refuses 8 6)
    ∷ ("-\n1;", reads "-1 ")
    ∷ ("- # c\n1;", reads "-1 ")
    ∷ ("x\n[0].mean\n();", reads "Mean(Index(x,0)) ")
    ∷ ("pays 1 on \"2020-02-29\" 2;", reads "Pays(1) 2 ")
    ∷ ("pays 1 on \"2020-02-29\" + 2;", reads "Pays(1) 2 ")
    ∷ ("pays 1 in \"USD\" x = 1;", reads "Pays(1) Assign(x,1) ")
    ∷ ("x = pays 1 on \"2020-02-29\" + 2;", reads "Assign(x,Add(Pays(1),2)) ")
    ∷ ("pays 1 in \"USD\" on \"2020-02-29\";", refuses 8 16)
    ∷ ("pays;;", refuses 8 5)
    ∷ ("if x {};", refuses 8 7)
    ∷ ("if x { pays on \"2020-02-29\" }", reads "If0(x,Pays()) ")
    ∷ ("min(pays 1, 2);", refuses 8 10)
    ∷ ("[pays 1];", refuses 8 7)
    ∷ ("for v in pays 1 { }", refuses 8 16)
    ∷ ("if pays { }", refuses 8 8)
    ∷ ("if pays on \"2020-02-29\" { }", reads "If0(Pays()) ")
    ∷ ("pays x -1;", reads "Pays(Subtract(x,1)) ")
    ∷ ("pays x (y);", reads "Pays(x,y) ")
    ∷ ("pays ln (y);", reads "Pays(Ln(y)) ")
    ∷ ("pays x\n[0];", reads "Pays(Index(x,0)) ")
    ∷ ("pays 1e5;", reads "Pays(1,e5) ")
    ∷ ("Spot += 1; Df pays; for min in x {}", reads "Assign(Spot,Add(Spot,1)) Assign(Df,Add(Df,Pays())) ForEach(x) ")
    ∷ ("ln;", refuses 8 2)
    ∷ ("1.5.mean();", refuses 5 0)
    ∷ ("1.mean();", refuses 8 2)
    ∷ ("x.5;", refuses 8 2)
    ∷ ("0000000000000000000000001;", reads "0000000000000000000000001 ")
    ∷ ("0.0000000000000000;", refuses 6 0)
    ∷ ("18446744073709551617;", refuses 6 0)
    ∷ ("99999999999999999999.9.9;", refuses 5 0)
    ∷ (") $", refuses 3 2)
    ∷ ("x.in();", refuses 8 2)
    ∷ ("x.ln();", refuses 10 2)
    ∷ ("x.foo(1,", refuses 8 8)
    ∷ ("if x {} else {}", reads "If1(x) ")
    ∷ ("\"a\nb\"\n $", refuses 3 7)
    ∷ ("-true;", reads "UnaryMinus(True()) ")
    ∷ ("pays 1\n# c\n;", reads "Pays(1) ")
    ∷ ("pays 1 # c", reads "Pays(1) ")
    ∷ ("(pays 1;)", refuses 8 7)
    ∷ ("if x {} else if y {}", refuses 8 13)
    ∷ ("x = ((((((((((((((((((((((((((((((((-1))))))))))))))))))))))))))))))));", reads "Assign(x,-1) ")
    ∷ ("x = ((((((((((((((((((((((((((((((((-y))))))))))))))))))))))))))))))));", refuses 15 36)
    ∷ ("x = ((((((((((((((((((((((((((((((((-", refuses 15 36)
    ∷ ("x = ((((((((((((((((((((((((((((((((a.foo()", refuses 15 41)
    ∷ ("x = ((((((((((((((((((((((((((((((((a.mean;", refuses 8 42)
    ∷ ("x = ((((((((((((((((((((((((((((((((ln x", refuses 8 39)
    ∷ ("x = ((((((((((((((((((((((((((((((((ln(", refuses 15 38)
    ∷ []

readings₃ : T (check one closely) × T (check two closely)
unfolding check
readings₃ = (tt, tt)

-- ---- edition two

-- `**` groups right and binds tighter than a sign; `and` binds tighter than `or`; a line break after a name does not matter
abbrev second : List (String × Said)
second =
    ("x = 2**3**2;", reads "Assign(x,Pow(2,Pow(3,2))) ")
    ∷ ("a and b or c and d;", reads "Or(And(a,b),And(c,d)) ")
    ∷ ("-a**b;", reads "UnaryMinus(Pow(a,b)) ")
    ∷ ("2**-3;", reads "Pow(2,-3) ")
    ∷ ("--2;", reads "UnaryMinus(-2) ")
    ∷ ("+2**2;", reads "Pow(2,2) ")
    ∷ ("x = 2**-3**2;", reads "Assign(x,Pow(2,UnaryMinus(Pow(3,2)))) ")
    ∷ ("x = -2**2;", reads "Assign(x,UnaryMinus(Pow(2,2))) ")
    ∷ ("x = -2*3;", reads "Assign(x,Multiply(-2,3)) ")
    ∷ ("x = -(2)**2;", reads "Assign(x,UnaryMinus(Pow(2,2))) ")
    ∷ ("x = -2\n**2;", reads "Assign(x,UnaryMinus(Pow(2,2))) ")
    ∷ ("x = - -2;", reads "Assign(x,UnaryMinus(-2)) ")
    ∷ ("x = --2**2;", reads "Assign(x,UnaryMinus(UnaryMinus(Pow(2,2)))) ")
    ∷ ("x = +2**-3;", reads "Assign(x,Pow(2,-3)) ")
    ∷ ("x = 2**+3**2;", reads "Assign(x,Pow(2,Pow(3,2))) ")
    ∷ ("x = 2**-a**-b**c;", reads "Assign(x,Pow(2,UnaryMinus(Pow(a,UnaryMinus(Pow(b,c)))))) ")
    ∷ ("x = a**b.mean()**-c[0];", reads "Assign(x,Pow(a,Pow(Mean(b),UnaryMinus(Index(c,0))))) ")
    ∷ ("x = (2**3)**2;", reads "Assign(x,Pow(Pow(2,3),2)) ")
    ∷ ("x = -2**2*-3 - -1;", reads "Assign(x,Subtract(Multiply(UnaryMinus(Pow(2,2)),-3),-1)) ")
    ∷ ("x = pow(2,3)**2/4**5;", reads "Assign(x,Divide(Pow(Pow(2,3),2),Pow(4,5))) ")
    ∷ ("pays 2**3 -2 (a)**2;", reads "Pays(Subtract(Pow(2,3),2),Pow(a,2)) ")
    ∷ ("x = 2**;", refuses 8 7)
    ∷ ("x = 2***3;", refuses 8 7)
    ∷ ("x = a or b and c;", reads "Assign(x,Or(a,And(b,c))) ")
    ∷ ("x = a and b or c and d or e;", reads "Assign(x,Or(Or(And(a,b),And(c,d)),e)) ")
    ∷ ("x = (a or b) and c;", reads "Assign(x,And(Or(a,b),c)) ")
    ∷ ("x = a == b and c < d or e;", reads "Assign(x,Or(And(Equal(a,b),Inferior(c,d)),e)) ")
    ∷ ("x\n= 1;", reads "Assign(x,1) ")
    ∷ ("x\n\n+= 1;", reads "Assign(x,Add(x,1)) ")
    ∷ ("x # c\npays 1;", reads "Assign(x,Add(x,Pays(1))) ")
    ∷ ("ln\n= 1; Spot\n= 2;", reads "Assign(ln,1) Assign(Spot,2) ")
    ∷ ("x\n== 1;", reads "Equal(x,1) ")
    ∷ ("if a\n{ b\n= 2; }", reads "If0(a,Assign(b,2)) ")
    ∷ ("x = --------------------------------2**2;", reads "Assign(x,UnaryMinus(UnaryMinus(UnaryMinus(UnaryMinus(UnaryMinus(UnaryMinus(UnaryMinus(UnaryMinus(UnaryMinus(UnaryMinus(UnaryMinus(UnaryMinus(UnaryMinus(UnaryMinus(UnaryMinus(UnaryMinus(UnaryMinus(UnaryMinus(UnaryMinus(UnaryMinus(UnaryMinus(UnaryMinus(UnaryMinus(UnaryMinus(UnaryMinus(UnaryMinus(UnaryMinus(UnaryMinus(UnaryMinus(UnaryMinus(UnaryMinus(UnaryMinus(Pow(2,2)))))))))))))))))))))))))))))))))) ")
    ∷ ("x = ---------------------------------2**2;", refuses 15 36)
    ∷ ("x = ((((((((((((((((((((((((((((((((-2**2", refuses 15 36)
    ∷ ("x = ((((((((((((((((((((((((((((((((2**-2))))))))))))))))))))))))))))))));", reads "Assign(x,Pow(2,-2)) ")
    ∷ ("x = ((((((((((((((((((((((((((((((((2**-2**2", refuses 15 39)
    ∷ ("x = ((((((((((((((((((((((((((((((((2**+2", refuses 15 39)
    ∷ []

readings_two : T (check two second)
unfolding check
readings_two = tt

-- the same bytes so many times
times : ℕ → List ℕ → List ℕ
times zero bs = []
times (suc n) bs = bs ++ times n bs

-- how many records a script has; its refusal's number and place where it is refused
records_of : Edition → List ℕ → ℕ × ℕ
unfolding computing own
records_of e bs = told (read_script e own bs)
  where
    told : Outcome → ℕ × ℕ
    told (accepted es) = (nodes es, 0)
    told (refused n p) = (n, p)

-- A chain of `**` is not counted for depth; each sign in it is: 32 and 33 of them
chains : (records_of two (bytes "x = 1" ++ (times 200 (bytes "**1") ++ bytes ";")) ≡ (403, 0))
    × (records_of two (bytes "x = " ++ (times 32 (bytes "-a**") ++ bytes "a;")) ≡ (99, 0))
    × (records_of two (bytes "x = " ++ (times 33 (bytes "-a**") ++ bytes "a;")) ≡ (15, 132))
unfolding records_of times computing own
chains = (refl, refl, refl)

-- ---- readings to rule out

-- no script of a table is read so in an edition
never : Edition → List (String × String) → Bool
unfolding holds computing own
never e [] = true
never e (r ∷ rs) = let bs = bytes r.0 in elim (holds bs (read_script e own bs) (reads r.1)) [ true ↦ false | false ↦ never e rs ]

-- grouping `**` to the right; giving `and` precedence; letting `(a)[0]` index; ending a pays at a line break
abbrev wrong : List (String × String)
wrong =
    ("x = 2**3**2;", "Assign(x,Pow(2,Pow(3,2))) ")
    ∷ ("x = a or b and c;", "Assign(x,Or(a,And(b,c))) ")
    ∷ ("pays (a)[0];", "Pays(Index(a,0)) ")
    ∷ ("pays x\ny = 1;", "Pays(x) Assign(y,1) ")
    ∷ []

ruled_out : T (never one wrong)
unfolding never
ruled_out = tt

-- of edition two: grouping `**` to the left; a minus that is only the number's; one level of `and` and `or`; the other two
abbrev wrong_two : List (String × String)
wrong_two =
    ("x = 2**3**2;", "Assign(x,Pow(Pow(2,3),2)) ")
    ∷ ("x = -2**2;", "Assign(x,Pow(-2,2)) ")
    ∷ ("x = a or b and c;", "Assign(x,And(Or(a,b),c)) ")
    ∷ ("pays (a)[0];", "Pays(Index(a,0)) ")
    ∷ ("pays x\ny = 1;", "Pays(x) Assign(y,1) ")
    ∷ []

ruled_out_two : T (never two wrong_two)
unfolding never
ruled_out_two = tt

unfoldable pub entries : Outcome → List Entry
entries (accepted es) = es
entries (refused n p) = []

-- counting places from the script's start: the second statement's name is at its byte 0, that of a nested one at 7 from `if`
own_places : (words_of (entries (read_script one own (bytes "a; bc;"))) ≡ 1 ∷ 1 ∷ 0 ∷ 0 ∷ 1 ∷ 0 ∷ 0 ∷ 0 ∷ 1 ∷ 1 ∷ 0 ∷ 0 ∷ 2 ∷ 0 ∷ 0 ∷ 0 ∷ [])
    × (directory_of (entries (read_script one own (bytes "a; bc;"))) ≡ 0 ∷ 2 ∷ 1 ∷ 2 ∷ 0 ∷ 3 ∷ 6 ∷ 1 ∷ 2 ∷ 0 ∷ [])
    × (words_of (entries (read_script one own (bytes " if a { b; }"))) ≡ 1 ∷ 1 ∷ 0 ∷ 3 ∷ 1 ∷ 0 ∷ 0 ∷ 3 ∷ 1 ∷ 1 ∷ 0 ∷ 7 ∷ 1 ∷ 0 ∷ 0 ∷ 7 ∷ 38 ∷ 3 ∷ 2 ∷ 0 ∷ 0 ∷ 0 ∷ 0 ∷ 0 ∷ [])
unfolding computing own entries
own_places = (refl, refl, refl)

-- ---- the paper's listing

-- statements, records, tokens; then the records
listed : Outcome → List ℕ
listed (accepted es) = length es ∷ nodes es ∷ tokens_of es ∷ words_of es
listed (refused n p) = n ∷ p ∷ []

listing : listed (read_script one own (bytes "x pays;"))
    ≡ 1 ∷ 5 ∷ 3
    ∷ 1 ∷ 1 ∷ 0 ∷ 0 ∷ 1 ∷ 0 ∷ 0 ∷ 0
    ∷ 1 ∷ 1 ∷ 0 ∷ 0 ∷ 1 ∷ 0 ∷ 0 ∷ 0
    ∷ 0x24 ∷ 1 ∷ 0 ∷ 0 ∷ 0 ∷ 0 ∷ 0 ∷ 2
    ∷ 8 ∷ 3 ∷ 2 ∷ 0 ∷ 0 ∷ 0 ∷ 0 ∷ 0
    ∷ 0x25 ∷ 5 ∷ 2 ∷ 0 ∷ 0 ∷ 0 ∷ 0 ∷ 0 ∷ []
unfolding computing listed own
listing = refl

-- its directory: start byte, end byte, records, tokens, the latest date
listing_directory : directory_of (entries (read_script one own (bytes "x pays;"))) ≡ 0 ∷ 7 ∷ 5 ∷ 3 ∷ 0 ∷ []
unfolding computing own entries
listing_directory = refl

-- line is 1 plus the line feeds before, column 1 plus the characters since the last
places : line (bytes "a\nbc\nd") 4 ∷ column (bytes "a\nbc\nd") 4 ∷ line (bytes "a\nbc\nd") 5 ∷ column (bytes "a\nbc\nd") 5 ∷ [] ≡ 2 ∷ 3 ∷ 3 ∷ 1 ∷ []
unfolding computing
places = refl

-- capacities: 2,048 records, 512 statements; a record has eight words, an entry five, and what does not fit whole is no room
rooms : (record_room 16383 ∷ record_room 16384 ∷ record_room 20000 ∷ record_room 7 ∷ [] ≡ 2047 ∷ 2048 ∷ 2048 ∷ 0 ∷ [])
    × (statement_room 2559 ∷ statement_room 2560 ∷ statement_room 4000 ∷ statement_room 4 ∷ [] ≡ 511 ∷ 512 ∷ 512 ∷ 0 ∷ [])
rooms = (refl, refl)

-- ---- with other lists

-- in either edition
check_with : Lists → List (String × Said) → Bool
unfolding holds computing
check_with l [] = true
check_with l (r ∷ rs) =
    let bs = bytes r.0 in
    elim (holds bs (read_script one l bs) r.1 && holds bs (read_script two l bs) r.1) [ true ↦ check_with l rs | false ↦ false ]

unfoldable pub lists : String → String → String → Lists
lists a b c = record { reserved = bytes a; currencies = bytes b; counters = bytes c }

judged : T (check_with (lists "foo\nmin\n" "USD\nEUR\n" "ACT/365\n")
    (("foo = 1;", refuses 9 0)
    ∷ ("x = foo;", refuses 9 4)
    ∷ ("for foo in a { }", refuses 9 4)
    ∷ ("x = min(1,2);", reads "Assign(x,Min(1,2)) ")
    ∷ ("min = 1;", refuses 9 0)
    ∷ ("x = cvg(\"2020-01-01\", (\"2020-01-02\"), \"ACT/365\");", reads "Assign(x,Cvg(String(),String(),String())) ")
    ∷ []))
unfolding check_with lists computing
judged = tt

-- ground 2: USD not first, no line feed at the end, a name twice, a quote
malformed : T (check_with (lists "" "EUR\nUSD\n" "") (("x", refuses 2 0) ∷ []) && check_with (lists "" "USD" "") (("x", refuses 2 0) ∷ [])
    && check_with (lists "a\na\n" "USD\n" "") (("x", refuses 2 0) ∷ []) && check_with (lists "" "USD\n" "\"\n") (("x", refuses 2 0) ∷ []))
unfolding check_with lists computing
malformed = tt

-- ---- the edition by its number

-- another edition number: 26 at byte 0, also where the lists are bad (2), a byte is (3), and there is no room (16)
other_edition : (reading 0 own 9 9 (bytes "x;") ≡ refused 26 0) × (reading 3 (lists "a\na" "" "") 0 0 (bytes "$") ≡ refused 26 0)
    × (reading 1 own 0 0 (bytes "x;") ≡ refused 16 2) × (reading 2 (lists "a\na" "" "") 0 0 (bytes "x;") ≡ refused 2 0)
unfolding computing own lists
other_edition = (refl, refl, refl, refl)
