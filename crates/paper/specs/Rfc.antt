-- JSON's grammar as RFC 8259 prints it, and UTF-8's as RFC 3629 does. `X a r` says: the text a is an X and then the text r.
use Rattle.std.specs.Prelude.{ℕ, suc, ◌≡◌, true, List, [], ◌∷◌, ◌++◌}
use Rattle.paper.specs.Numbers.{text}
use Rattle.paper.specs.Grammar.{Bytes, among, range, these, blank, digit, hex_digit, plain, further, levels_inside}

-- the byte is one of these
abbrev pub In : ℕ → Bytes → Type 0
In b c = among c b ≡ true

-- ws
pub data Blanks : List ℕ → List ℕ → Type 0 where
  none : {r : List ℕ} → Blanks r r
  more : {b : ℕ} {a r : List ℕ} → In b blank → Blanks a r → Blanks (b ∷ a) r

-- ---- strings

-- characters of more than one byte
pub data Wide : List ℕ → List ℕ → Type 0 where
  two : {b c : ℕ} {r : List ℕ} → In b (range 0xc2 0xdf) → In c further → Wide (b ∷ c ∷ r) r
  e0 : {b c d : ℕ} {r : List ℕ} → In b (range 0xe0 0xe0) → In c (range 0xa0 0xbf) → In d further → Wide (b ∷ c ∷ d ∷ r) r
  three : {b c d : ℕ} {r : List ℕ} → In b (range 0xe1 0xec ++ range 0xee 0xef) → In c further → In d further → Wide (b ∷ c ∷ d ∷ r) r
  ed : {b c d : ℕ} {r : List ℕ} → In b (range 0xed 0xed) → In c (range 0x80 0x9f) → In d further → Wide (b ∷ c ∷ d ∷ r) r
  f0 : {b c d e : ℕ} {r : List ℕ} → In b (range 0xf0 0xf0) → In c (range 0x90 0xbf) → In d further → In e further
      → Wide (b ∷ c ∷ d ∷ e ∷ r) r
  four : {b c d e : ℕ} {r : List ℕ} → In b (range 0xf1 0xf3) → In c further → In d further → In e further → Wide (b ∷ c ∷ d ∷ e ∷ r) r
  f4 : {b c d e : ℕ} {r : List ℕ} → In b (range 0xf4 0xf4) → In c (range 0x80 0x8f) → In d further → In e further
      → Wide (b ∷ c ∷ d ∷ e ∷ r) r

-- what follows a backslash
pub data Escape : List ℕ → List ℕ → Type 0 where
  short : {b : ℕ} {r : List ℕ} → In b (these "\"\\/bfnrt") → Escape (b ∷ r) r
  unicode : {u b c d e : ℕ} {r : List ℕ} → In u (these "u") → In b hex_digit → In c hex_digit → In d hex_digit → In e hex_digit
      → Escape (u ∷ b ∷ c ∷ d ∷ e ∷ r) r

-- the characters of a string and its closing quote
pub data Chars : List ℕ → List ℕ → Type 0 where
  close : {q : ℕ} {r : List ℕ} → In q (these "\"") → Chars (q ∷ r) r
  itself : {b : ℕ} {a r : List ℕ} → In b plain → Chars a r → Chars (b ∷ a) r
  escaped : {b : ℕ} {a m r : List ℕ} → In b (these "\\") → Escape a m → Chars m r → Chars (b ∷ a) r
  wide : {a m r : List ℕ} → Wide a m → Chars m r → Chars a r

-- ---- numbers

pub data Digits* : List ℕ → List ℕ → Type 0 where
  none : {r : List ℕ} → Digits* r r
  more : {b : ℕ} {a r : List ℕ} → In b digit → Digits* a r → Digits* (b ∷ a) r

-- int = 0 / a digit 1-9 and more
pub data Int : List ℕ → List ℕ → Type 0 where
  nought : {b : ℕ} {r : List ℕ} → In b (these "0") → Int (b ∷ r) r
  other : {b : ℕ} {a r : List ℕ} → In b (range 0x31 0x39) → Digits* a r → Int (b ∷ a) r

-- [ frac ], [ exp ]
pub data Fraction : List ℕ → List ℕ → Type 0 where
  none : {r : List ℕ} → Fraction r r
  some : {p b : ℕ} {a r : List ℕ} → In p (these ".") → In b digit → Digits* a r → Fraction (p ∷ b ∷ a) r

pub data Exponent : List ℕ → List ℕ → Type 0 where
  none : {r : List ℕ} → Exponent r r
  signed : {e s b : ℕ} {a r : List ℕ} → In e (these "eE") → In s (these "+-") → In b digit → Digits* a r → Exponent (e ∷ s ∷ b ∷ a) r
  unsigned : {e b : ℕ} {a r : List ℕ} → In e (these "eE") → In b digit → Digits* a r → Exponent (e ∷ b ∷ a) r

-- number = [ minus ] int [ frac ] [ exp ]
pub data Number : List ℕ → List ℕ → Type 0 where
  positive : {a i f r : List ℕ} → Int a i → Fraction i f → Exponent f r → Number a r
  negative : {b : ℕ} {a i f r : List ℕ} → In b (these "-") → Int a i → Fraction i f → Exponent f r → Number (b ∷ a) r

-- a word
pub data Word : List ℕ → List ℕ → List ℕ → Type 0 where
  end : {r : List ℕ} → Word [] r r
  next : {b c : ℕ} {w a r : List ℕ} → In b ((c, c) ∷ []) → Word w a r → Word (c ∷ w) (b ∷ a) r

-- ---- values, nested at most n levels inside

mutual
  pub data Value : ℕ → List ℕ → List ℕ → Type 0 where
    string : {n q : ℕ} {a r : List ℕ} → In q (these "\"") → Chars a r → Value n (q ∷ a) r
    number : {n : ℕ} {a r : List ℕ} → Number a r → Value n a r
    is_true : {n : ℕ} {a r : List ℕ} → Word (text "true") a r → Value n a r
    is_false : {n : ℕ} {a r : List ℕ} → Word (text "false") a r → Value n a r
    is_null : {n : ℕ} {a r : List ℕ} → Word (text "null") a r → Value n a r
    array : {n b : ℕ} {a r : List ℕ} → In b (these "[") → Array n a r → Value (suc n) (b ∷ a) r
    object : {n b : ℕ} {a r : List ℕ} → In b (these "{") → Object n a r → Value (suc n) (b ∷ a) r

  -- after `[`: nothing or values with commas between, then `]`
  pub data Array : ℕ → List ℕ → List ℕ → Type 0 where
    no_item : {n b : ℕ} {a r : List ℕ} → Blanks a (b ∷ r) → In b (these "]") → Array n a r
    items : {n : ℕ} {a v m r : List ℕ} → Blanks a v → Value n v m → Items n m r → Array n a r

  -- after an item
  pub data Items : ℕ → List ℕ → List ℕ → Type 0 where
    last_item : {n b : ℕ} {a r : List ℕ} → Blanks a (b ∷ r) → In b (these "]") → Items n a r
    more_item : {n b : ℕ} {a c v m r : List ℕ} → Blanks a (b ∷ c) → In b (these ",") → Blanks c v → Value n v m → Items n m r → Items n a r

  -- after `{`: nothing or members with commas between, then `}`
  pub data Object : ℕ → List ℕ → List ℕ → Type 0 where
    no_member : {n b : ℕ} {a r : List ℕ} → Blanks a (b ∷ r) → In b (these "}") → Object n a r
    members : {n : ℕ} {a m r : List ℕ} → Member n a m → Members n m r → Object n a r

  -- a name, a colon, a value
  pub data Member : ℕ → List ℕ → List ℕ → Type 0 where
    member : {n q p : ℕ} {a b c d v r : List ℕ} → Blanks a (q ∷ b) → In q (these "\"") → Chars b c → Blanks c (p ∷ d) → In p (these ":")
        → Blanks d v → Value n v r → Member n a r

  -- after a member
  pub data Members : ℕ → List ℕ → List ℕ → Type 0 where
    last_member : {n b : ℕ} {a r : List ℕ} → Blanks a (b ∷ r) → In b (these "}") → Members n a r
    more_member : {n b : ℕ} {a c m r : List ℕ} → Blanks a (b ∷ c) → In b (these ",") → Member n c m → Members n m r → Members n a r

-- one object with blanks around it, its members nested at most n levels
pub data OneObject : ℕ → List ℕ → Type 0 where
  around : {n b : ℕ} {a m r : List ℕ} → Blanks a (b ∷ m) → In b (these "{") → Object n m r → Blanks r [] → OneObject n a

-- one object, nested to 16 levels of which it is the first
abbrev pub JsonObject : List ℕ → Type 0
JsonObject bs = OneObject levels_inside bs

-- the text begins one: with some bytes after it, it is one
abbrev pub Begins : List ℕ → Type 0
Begins bs = (more : List ℕ) × JsonObject (bs ++ more)
