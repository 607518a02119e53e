-- What is kept of a head that was read.
use Rattle.std.specs.Prelude.{◌≡◌, ℕ, List, Ok}
use Rattle.httparse.specs.Grammar.{RequestHead}
use Rattle.httparse.specs.Spans.{IsWithin, span_bytes}
use Rattle.udb_http.specs.declared.heads.Frame.{Frame}
use Rattle.udb_http.specs.Framing.{closes}
use Rattle.udb_http.specs.Sessions.{IsHead, pairs, size_of}

-- the spans lie in the first n bytes
pub record IsFrameWithin (n : ℕ) (frame : Frame) : Type 0 where
  pub method : IsWithin n frame.method
  pub path : IsWithin n frame.path

-- the frame is that of the head h
pub record IsFrameOf (bytes : List ℕ) (frame : Frame) (h : RequestHead) : Type 0 where
  pub head : IsHead bytes h
  pub method : span_bytes bytes frame.method ≡ h.method
  pub path : span_bytes bytes frame.path ≡ h.target
  pub size : size_of h ≡ Ok frame.size
  pub close : frame.close ≡ closes h.minor (pairs h)
