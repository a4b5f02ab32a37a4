mod Known
mod Sending
